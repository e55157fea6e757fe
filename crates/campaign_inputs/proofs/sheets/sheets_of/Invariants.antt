use Rattle.std.proofs.Common.{◌≡◌, map, take}
use Rattle.campaign_inputs.proofs.sheets.sheets_of.Given as goal

abbrev pub invariant-loop-plugin : goal.invariant-loop-plugin
invariant-loop-plugin g l =
    l.sheets.items ≡ map (λ b. (goal.Plugin-dyn g (b.vtable, b.value)).own_sheet b.value) (take l.plugin-index l.plugins)
