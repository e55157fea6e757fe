use Rattle.std.proofs.Common.{◌≡◌, map, take, drop}
use Rattle.plugin_trait.proofs.startup.start_all.Given as goal

abbrev pub invariant-loop-plugin : goal.invariant-loop-plugin
invariant-loop-plugin g l = record {
  vetoes : map (λ b. (goal.Plugin-dyn g (b.vtable, b.value)).own_vetoes b.value) (take l.plugin-index l.plugin-items)
      ≡ map (λ b. (goal.Plugin-dyn g (b.vtable, b.value)).vetoes_on b.value l.machine) (take l.plugin-index l.fn.plugins.items);
  sheets : map (λ b. (goal.Plugin-dyn g (b.vtable, b.value)).own_sheet b.value) (take l.plugin-index l.plugin-items)
      ≡ map (λ b. (goal.Plugin-dyn g (b.vtable, b.value)).own_sheet b.value) (take l.plugin-index l.fn.plugins.items);
  rest : drop l.plugin-index l.plugin-items ≡ drop l.plugin-index l.fn.plugins.items;
}
