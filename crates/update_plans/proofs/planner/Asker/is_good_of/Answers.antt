use Rattle.std.proofs.Common.{sym}
use Rattle.update_log.specs.Pasts.{past_of}
use Rattle.update_log.specs.Known.{basis_of}
use Rattle.update_plans.specs.Plans.{scene}
use Rattle.update_plans.proofs.Good.{good_no_release}
use Rattle.update_plans.proofs.planner.Asker.is_good_of.Goals as goal

pub returns-in-None : goal.returns-in-None
returns-in-None c = λ opening stands quiet.
    sym (good_no_release (scene (basis_of c.args.self.now.facts.now opening) c.args.self.now.client c.args.self.now.tag.now) c.args.number c.args.step.now (past_of c.args.state.now.log) c.args.component.now c.requires.component (sym c.in-None.ensures))
