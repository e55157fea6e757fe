use Rattle.std.proofs.Common.{◌<◌, length, arith}
use Rattle.site_making.proofs.Turns.{map_turn}
use Rattle.campaign_inputs.proofs.sheets.sheets_of.Goals as goal

pub loop-plugin-preserved : goal.loop-plugin-preserved
loop-plugin-preserved g c =
    let lt : c.loop-plugin.plugin-index < length c.args.plugins.now = omega arith in
    map_turn (λ b. (goal.Plugin-dyn g (b.vtable, b.value)).own_sheet b.value) c.args.plugins.now c.loop-plugin.plugin-index c.plugin-item.result
    c.loop-plugin.sheets.items _ _ lt c.plugin-item.is c.loop-plugin.invariant c.in_ok-push.ensures.items c.in_ok-sheet_of.ensures
