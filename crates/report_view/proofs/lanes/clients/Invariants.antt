use Rattle.std.proofs.Common.{◌≡◌, take}
use Rattle.report_view.specs.Lanes.{clients_of}
use Rattle.report_view.proofs.lanes.clients.Given as goal

abbrev pub invariant-loop-event : goal.invariant-loop-event
invariant-loop-event l = l.clients.items ≡ clients_of (take l.event-index l.events)
