use Rattle.std.proofs.Common.{◌<◌, length, arith}
use Rattle.campaign_plans.proofs.Lines.{put_turn}
use Rattle.campaign_plans.proofs.printing.put_steps.Goals as goal

pub loop-index-preserved : goal.loop-index-preserved
loop-index-preserved c =
    let lt : c.loop-index.index < length c.args.steps.now = omega arith in
    put_turn c.args.facts.now c.args.views.now c.loop-index.index c.args.steps.now c.index-steps-index.result c.port_of-port.result.now c.version_of-version.result.now c.loop-index.out.items _ c.put_step.new.out.items lt
    c.index-steps-index.is c.port_of-port.ensures c.version_of-version.ensures c.loop-index.invariant c.in_ok-put_step.ensures
