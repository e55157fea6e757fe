use Rattle.std.proofs.Common.{◌≡◌, ◌++◌, map, take}
use Rattle.plugin_order.specs.Sheets.{name_at}
use Rattle.plugin_order.proofs.cycles.push_names.Given as goal

abbrev pub invariant-loop-p : goal.invariant-loop-p
invariant-loop-p l = l.shown.items ≡ l.initial.shown.items ++ map (name_at l.sheets) (take l.p-index l.plugins)
