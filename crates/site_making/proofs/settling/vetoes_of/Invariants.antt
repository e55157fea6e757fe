use Rattle.std.proofs.Common.{◌≡◌, map, take}
use Rattle.site_making.specs.Settled.{vetoes_of}
use Rattle.site_making.proofs.settling.vetoes_of.Given as goal

abbrev pub invariant-loop-plugin : goal.invariant-loop-plugin
invariant-loop-plugin g l =
    l.vetoes.items ≡ map (λ b. vetoes_of ((goal.Plugin-dyn g (b.vtable, b.value)).own_sheet b.value) ((goal.Plugin-dyn g (b.vtable, b.value)).own_vetoes b.value))
    (take l.plugin-index l.plugins)
