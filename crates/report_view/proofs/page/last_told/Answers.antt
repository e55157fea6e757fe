use Rattle.std.proofs.Common.{List, ℕ, Option, None}
use Rattle.report_view.specs.Reading.{line_read}
use Rattle.report_view.specs.Pages.{told_by}
use Rattle.report_view.proofs.TextTurns.{fold_texts}
use Rattle.report_view.proofs.page.last_told.Goals as goal

pub loop-line-preserved : goal.loop-line-preserved
loop-line-preserved c =
    fold_texts (λ (told : Option ℕ) (line : List ℕ). told_by (line_read line) told) None c.args.lines.now c.loop-line.line-index _ c.loop-line.told
    c.told_with-told.result c.loop-line-test.true c.loop-line.invariant c.told_with-told.ensures
