use Rattle.std.proofs.Common.{◌≡◌, ◌++◌, map, take, drop}
use Rattle.core_state.specs.CoreViews.{unclaimed}
use Rattle.core_state.proofs.showing.unclaim.Given as goal

abbrev pub invariant-loop-at : goal.invariant-loop-at
invariant-loop-at l = l.devices ≡ map unclaimed (take l.at l.initial.devices) ++ drop l.at l.initial.devices
