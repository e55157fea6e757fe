use Rattle.std.specs.Prelude.{Some, None}
use Rattle.command_outputs.proofs.RequirementLines.{cause_of_only}
use Rattle.command_outputs.proofs.requirements_met.cause_of_one.Goals as goal

pub returns-in-Some : goal.returns-in-Some
returns-in-Some c =
    λ requirement one. cause_of_only c.args.facts.now.machine c.args.features.now c.args.views.now c.args.place c.args.view.now requirement c.args.one.now
    (Some c.in-Some.unmet) c.requires.there one c.in-Some.ensures

pub returns-in-None : goal.returns-in-None
returns-in-None c =
    λ requirement one. cause_of_only c.args.facts.now.machine c.args.features.now c.args.views.now c.args.place c.args.view.now requirement c.args.one.now
    None c.requires.there one c.in-None.ensures
