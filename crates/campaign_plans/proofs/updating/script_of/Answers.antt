use Rattle.std.proofs.Common.{[], arith}
use Rattle.update_plans.specs.Plans.{scene}
use Rattle.campaign_plans.proofs.Installs.{installs_step}
use Rattle.campaign_plans.proofs.updating.script_of.Goals as goal
use Rattle.update_log.specs.Known.{basis_of}

pub loop-index-preserved : goal.loop-index-preserved
loop-index-preserved c =
    installs_step (scene (basis_of c.args.facts.now []) 1 c.args.plan.now.tag) c.items-step-items.result.now c.args.plan.now.steps c.loop-index.index c.step-item.result c.loop-index.items.items c.put_install.new.items.items
    c.items-step-items.ensures (omega arith) c.step-item.is c.loop-index.invariant c.in_ok-put_install.ensures
