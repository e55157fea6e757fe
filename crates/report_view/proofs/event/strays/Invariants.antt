use Rattle.std.proofs.Common.{◌≡◌, ◌+◌, ◌++◌, drop, map}
use Rattle.report_view.specs.Events.{strays, strays_from}
use Rattle.report_view.proofs.event.strays.Given as goal

abbrev pub invariant-loop-at : goal.invariant-loop-at
invariant-loop-at l =
    l.found.items ++ strays_from (l.at + 1) (drop l.at (map (λ line. line.now) l.lines)) l.owned ≡ strays (map (λ line. line.now) l.lines)
