use Rattle.std.proofs.Common.{arith, Bor, List, ℕ, map}
use Rattle.report_view.specs.Rows.{row_after}
use Rattle.report_view.proofs.RowTurns.{change_turn}
use Rattle.report_view.proofs.entries.change_rows.Goals as goal

pub loop-row-preserved : goal.loop-row-preserved
loop-row-preserved c =
    change_turn (row_after (map (λ (line : Bor (List ℕ)). line.now) c.args.lines.now) c.args.event.number c.args.event.at c.args.event.kind)
    c.args.rows.now c.loop-row.rows c.loop-row.row-index _ c.change_row.new.row c.loop-row-test.true (omega arith) c.loop-row.invariant c.change_row.ensures
