use Rattle.std.proofs.Common.{◌∙◌, sym}
use Rattle.fw_patterns.proofs.MarkLemmas.{first_fault-next, first_fault-here, first_fault-end}
use Rattle.fw_patterns.proofs.order.first_fault.Goals as goal

pub returns-in-Err : goal.returns-in-Err
returns-in-Err c =
    sym (first_fault-here c.loop-placed.before c.args.end c.loop-placed.placed-index c.args.marks.now c.placed-item.result c.loop-placed-test.true
    c.placed-item.is c.in-Err.fault (sym c.step.ensures ∙ c.in-Err.is))
    ∙ c.loop-placed.invariant

pub loop-placed-preserved : goal.loop-placed-preserved
loop-placed-preserved c =
    sym (first_fault-next c.loop-placed.before c.args.end c.loop-placed.placed-index c.args.marks.now c.placed-item.result c.loop-placed-test.true
    c.placed-item.is c.in-Ok.next (sym c.step.ensures ∙ c.in-Ok.is))
    ∙ c.loop-placed.invariant

pub returns : goal.returns
returns c =
    c.last_fault.ensures
    ∙ sym (first_fault-end c.loop-placed.before c.args.end c.loop-placed.placed-index c.args.marks.now c.loop-placed-test.false)
    ∙ c.loop-placed.invariant
