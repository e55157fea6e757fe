use Rattle.std.proofs.Common.{◌<◌, length, arith}
use Rattle.plugin_trait.proofs.InTurn.{changed, left_alone}
use Rattle.plugin_trait.proofs.startup.start_all.Goals as goal

pub loop-plugin-preserved : goal.loop-plugin-preserved
loop-plugin-preserved g c =
    let lt : c.loop-plugin.plugin-index < length c.loop-plugin.plugin-items = omega arith in
    record {
      vetoes = changed (λ b. (goal.Plugin-dyn g (b.vtable, b.value)).own_vetoes b.value) (λ b. (goal.Plugin-dyn g (b.vtable, b.value)).vetoes_on b.value c.args.machine.now) c.loop-plugin.plugin-items c.args.plugins.now.items c.loop-plugin.plugin-index c.plugin-item.result c.start.new.plugin lt c.start.ensures.vetoes c.loop-plugin.invariant.rest c.loop-plugin.invariant.vetoes;
      sheets = changed (λ b. (goal.Plugin-dyn g (b.vtable, b.value)).own_sheet b.value) (λ b. (goal.Plugin-dyn g (b.vtable, b.value)).own_sheet b.value) c.loop-plugin.plugin-items c.args.plugins.now.items c.loop-plugin.plugin-index c.plugin-item.result c.start.new.plugin lt c.start.ensures.sheet c.loop-plugin.invariant.rest c.loop-plugin.invariant.sheets;
      rest = left_alone c.loop-plugin.plugin-items c.args.plugins.now.items c.loop-plugin.plugin-index _ lt c.loop-plugin.invariant.rest;
    }
