use Rattle.std.proofs.Common.{ℕ, List, [], sym, ap, ◌∙◌, subst}
use Rattle.update_plans.specs.Plans.{scene}
use Rattle.update_plans.specs.Tags.{IsTag}
use Rattle.update_plans.specs.declared.plan.PlanStep.{PlanStep}
use Rattle.campaign_plans.specs.Updating.{installs_from}
use Rattle.campaign_plans.proofs.Installs.{installs_same}
use Rattle.campaign_plans.proofs.updating.first_installs.Goals as goal
use Rattle.update_log.specs.Known.{basis_of}

pub script_of-requires-clause-tag : goal.script_of-requires-clause-tag
script_of-requires-clause-tag c = subst IsTag (sym c.in_ok-first.ensures.tag_is) c.requires.tag

pub script_of-requires-clause-few : goal.script_of-requires-clause-few
script_of-requires-clause-few c = c.in_ok-first.ensures.few

pub returns : goal.returns
returns c =
    let f = c.in_ok-first.ensures in
    let first = c.in_ok-first.first in
    c.in_ok-items.ensures
    ∙ ap (λ (t : List ℕ). installs_from (scene (basis_of c.args.campaign.now.facts []) 1 t) 1 first.plan.steps) f.tag_is
    ∙ ap (λ (steps : List PlanStep). installs_from (scene (basis_of c.args.campaign.now.facts []) 1 c.args.tag.now) 1 steps) f.steps_are
    ∙ installs_same c.args.campaign.now.facts c.args.rows.now [] 1 c.args.tag.now 1 _
