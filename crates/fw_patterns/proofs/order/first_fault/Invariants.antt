use Rattle.std.proofs.Common.{◌≡◌, drop}
use Rattle.fw_patterns.specs.Reading.{first_fault}
use Rattle.fw_patterns.specs.declared.order.Before.TheVariants.{BranchStart}
use Rattle.fw_patterns.proofs.order.first_fault.Given as goal

abbrev pub invariant-loop-placed : goal.invariant-loop-placed
invariant-loop-placed l = first_fault l.before l.end (drop l.placed-index l.marks) ≡ first_fault BranchStart l.end l.marks
