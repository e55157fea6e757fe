use Rattle.std.proofs.Common.{refl}
use Rattle.update_log.specs.Known.{basis_of}
use Rattle.report_text.proofs.Followed.{fault-boots, faults-lines, other-event}
use Rattle.report_text.proofs.report.write_log.Goals as goal

pub returns-then-are_fault_boots-clause-whole : goal.returns-then-are_fault_boots-clause-whole
returns-then-are_fault_boots-clause-whole g c =
    rw (faults-lines (basis_of c.args.facts.now c.args.rows.now.items) c.args.log.now (fault-boots c.args.log.now c.if-are_fault_boots.ensures)) (rw c.items.ensures at c.write_alone.ensures.whole)

pub returns-then-are_fault_boots-clause-front : goal.returns-then-are_fault_boots-clause-front
returns-then-are_fault_boots-clause-front g c =
    rw (faults-lines (basis_of c.args.facts.now c.args.rows.now.items) c.args.log.now (fault-boots c.args.log.now c.if-are_fault_boots.ensures)) (rw c.items.ensures at c.write_alone.ensures.front)

pub write_over-requires : goal.write_over-requires
write_over-requires g c = λ κs outlives. (outlives, (c.requires.few, (refl, (c.requires.legal, other-event c.args.rows.now.items c.args.log.now c.if-are_fault_boots.ensures c.requires.history))))
