use Rattle.std.proofs.Common.{◌≡◌, map, take}
use Rattle.site_making.proofs.priorities.names_of.Given as goal

abbrev pub invariant-loop-plugin : goal.invariant-loop-plugin
invariant-loop-plugin g l =
    l.names.items ≡ map (λ b. ((goal.Plugin-dyn g (b.vtable, b.value)).own_sheet b.value).name) (take l.plugin-index l.plugins)
