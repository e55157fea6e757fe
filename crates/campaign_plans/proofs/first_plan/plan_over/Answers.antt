use Rattle.std.proofs.Common.{◌≡◌, List, ◌∙◌, sym, subst}
use Rattle.std.specs.Prelude.{None}
use Rattle.update_log.specs.Pasts.{past_of}
use Rattle.update_log.specs.Known.{basis_of}
use Rattle.update_plans.specs.Plans.{first_bad, scene}
use Rattle.update_plans.specs.declared.plan.PlanStep.{PlanStep}
use Rattle.campaign_plans.proofs.FirstPlanned.{none_bad}
use Rattle.campaign_plans.proofs.first_plan.plan_over.Goals as goal

pub returns-then-boots-eq0-clause-good : goal.returns-then-boots-eq0-clause-good
returns-then-boots-eq0-clause-good g c =
    subst (λ (steps : List PlanStep). first_bad (scene (basis_of c.args.facts.now g.opening) 1 c.args.tag.now) 1 steps (past_of c.args.state.now.log) ≡ None)
    (sym (c.of.ensures ∙ c.new.ensures.items)) (none_bad _ _)
