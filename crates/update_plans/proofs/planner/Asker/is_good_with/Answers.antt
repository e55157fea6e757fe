use Rattle.std.proofs.Common.{sym}
use Rattle.update_plans.specs.Plans.{scene}
use Rattle.update_plans.proofs.Good.{good_nowhere}
use Rattle.update_plans.proofs.planner.Asker.is_good_with.Goals as goal
use Rattle.update_log.specs.Known.{basis_of}

pub returns-in-None : goal.returns-in-None
returns-in-None c = λ opening stands quiet.
    sym (good_nowhere (scene (basis_of c.args.self.now.facts.now opening) c.args.self.now.client c.args.self.now.tag.now) c.args.number c.args.step.now c.args.state.now stands (sym c.in-None.ensures))
