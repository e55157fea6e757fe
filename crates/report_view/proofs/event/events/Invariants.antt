use Rattle.std.proofs.Common.{◌≡◌, ◌++◌, drop, length, map}
use Rattle.report_view.specs.Events.{events, events_from}
use Rattle.report_view.proofs.event.events.Given as goal

abbrev pub invariant-loop-at : goal.invariant-loop-at
invariant-loop-at l =
    l.found.items ++ events_from l.at (drop l.at (map (λ line. line.now) l.lines)) (length l.found.items) ≡ events (map (λ line. line.now) l.lines)
