use Rattle.std.proofs.Common.{[], take}
use Rattle.plugin_order.specs.Arranged.{disabled, IsOff}
use Rattle.plugin_order.proofs.conflicts.take_turns.Given as goal

abbrev pub invariant-loop-p : goal.invariant-loop-p
invariant-loop-p l = IsOff l.sheets (disabled l.sheets [] (take l.p-index l.order)) l.on
