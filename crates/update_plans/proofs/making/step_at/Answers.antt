use Rattle.update_plans.proofs.Taking.{got_at}
use Rattle.update_plans.proofs.making.step_at.Goals as goal

pub returns : goal.returns
returns c = got_at c.args.steps.now c.args.at c.index-steps-at.result c.requires c.index-steps-at.is
