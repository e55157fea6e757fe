use Rattle.std.proofs.Common.{None, Some}
use Rattle.update_plans.specs.Plans.{scene}
use Rattle.update_plans.proofs.Puts.{good-there}
use Rattle.update_plans.proofs.Released.{release_found}
use Rattle.update_plans.proofs.planner.Asker.install.Goals as goal
use Rattle.update_log.specs.Known.{basis_of}

pub put-requires : goal.put-requires
put-requires g c = (c.requires.0, (c.requires.1.0, (c.requires.1.1.0, (c.requires.1.1.1.0, (c.requires.1.1.1.1.0, (c.requires.1.1.1.1.1.0, (c.requires.1.1.1.1.1.1, (release_found c.args.self.now.facts.now.catalogue c.args.step.now.release (Some c.in-Some.release.now) c.in-Some.ensures))))))))

pub returns-in-None-clause-past : goal.returns-in-None-clause-past
returns-in-None-clause-past g c =
    absurd
    (good-there (scene (basis_of c.args.self.now.facts.now g.at.opening) c.args.self.now.client c.args.self.now.tag.now) g.at.number c.args.step.now g.at.before c.requires.1.1.1.1.1.1
    (release_found c.args.self.now.facts.now.catalogue c.args.step.now.release None c.in-None.ensures))
