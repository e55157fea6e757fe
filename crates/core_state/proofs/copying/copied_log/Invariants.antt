use Rattle.std.proofs.Common.{◌≡◌, take}
use Rattle.core_state.proofs.copying.copied_log.Given as goal

abbrev pub invariant-loop-event : goal.invariant-loop-event
invariant-loop-event l = l.copy.items ≡ take l.event-index l.log
