use Rattle.std.proofs.Common.{◌≡◌, take}
use Rattle.device_list.proofs.devices.Devices.copy.Given as goal

abbrev pub invariant-loop-view : goal.invariant-loop-view
invariant-loop-view l = l.copy ≡ take l.view-index l.view-items
