use Rattle.std.proofs.Common.{sym, arith}
use Rattle.emulated_boards.proofs.Counting.{fault_count-none}
use Rattle.emulated_boards.proofs.fault.FaultPlan.new.Goals as goal

pub invariant_of-result : goal.invariant_of-result
invariant_of-result c = record {
  rising = c.requires;
  counted = sym (fault_count-none c.args.planned.items 0 0 c.requires (omega arith));
}
