use Rattle.std.proofs.Common.{◌≡◌, ℕ, nat_eq, take}
use Rattle.indexmap.specs.IndexSet.{contains}
use Rattle.report_queue.specs.Sending.{is_marked}
use Rattle.report_queue.proofs.due.marked_set.Given as goal

abbrev pub invariant-loop-mark : goal.invariant-loop-mark
invariant-loop-mark l = (entry : ℕ) → contains nat_eq l.set entry ≡ is_marked (take l.mark-index l.marks) entry
