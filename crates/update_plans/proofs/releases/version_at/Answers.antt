use Rattle.std.specs.Prelude.{Some, None}
use Rattle.update_plans.proofs.Released.{version_found}
use Rattle.update_plans.proofs.releases.version_at.Goals as goal

pub returns-in-Some : goal.returns-in-Some
returns-in-Some c = version_found c.args.facts.now.catalogue c.args.at (Some c.in-Some.release.now) c.in-Some.ensures

pub returns-in-None : goal.returns-in-None
returns-in-None c = version_found c.args.facts.now.catalogue c.args.at None c.in-None.ensures
