use Rattle.std.proofs.Common.{◌≡◌}
use Rattle.turn_lock.proofs.waiting.call_next.Given as goal

abbrev pub invariant-loop-behind : goal.invariant-loop-behind
invariant-loop-behind g l = (l.seat.table_id ≡ l.fn.seat.table_id) × (l.seat.me ≡ l.fn.seat.me)
