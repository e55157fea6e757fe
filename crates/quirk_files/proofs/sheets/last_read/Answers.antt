use Rattle.std.proofs.Common.{Bor}
use Rattle.quirk_files.specs.declared.quirk.Quirk.{Quirk}
use Rattle.quirk_files.specs.Sheets.{value_in}
use Rattle.quirk_files.proofs.Loops.{last_step}
use Rattle.quirk_files.proofs.sheets.last_read.Goals as goal

pub loop-quirk-preserved : goal.loop-quirk-preserved
loop-quirk-preserved g c =
    last_step (value_in (g.R.Reader.reads c.args.reader.now) c.args.key) (λ (quirk : Bor Quirk). quirk.now) c.args.quirks.now c.loop-quirk.quirk-index
    c.quirk-item.result c.loop-quirk.last c.value_in.result c.or-last.result c.loop-quirk-test.true c.loop-quirk.invariant c.quirk-item.is c.value_in.ensures c.or-last.ensures
