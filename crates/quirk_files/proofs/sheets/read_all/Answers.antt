use Rattle.std.proofs.Common.{Bor, List, ℕ}
use Rattle.quirk_files.proofs.Loops.{read_step, no_reference}
use Rattle.quirk_files.proofs.sheets.read_all.Goals as goal

pub loop-element-preserved : goal.loop-element-preserved
loop-element-preserved g c =
    read_step (g.R.Reader.reads c.args.reader.now) (λ (element : Bor (List ℕ)). element.now) c.args.elements.now c.loop-element.element-index
    no_reference c.loop-element.read.items c.push_some.new.list.items c.read.result c.loop-element-test.true c.loop-element.invariant c.read.ensures c.in_ok-push_some.ensures
