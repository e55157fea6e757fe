use Rattle.std.proofs.Common.{Bor, List, ℕ, [], map}
use Rattle.report_view.specs.Lanes.{with_board}
use Rattle.report_view.proofs.TextTurns.{fold_texts}
use Rattle.report_view.proofs.lanes.push_boards.Goals as goal

pub loop-line-preserved : goal.loop-line-preserved
loop-line-preserved c =
    fold_texts with_board [] c.args.lines.now c.loop-line.line-index _ (map (λ (known : Bor (List ℕ)). known.now) c.loop-line.names.items)
    (map (λ (known : Bor (List ℕ)). known.now) c.push_board.new.names.items) c.loop-line-test.true c.loop-line.invariant c.in_ok-push_board.ensures
