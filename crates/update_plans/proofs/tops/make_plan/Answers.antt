use Rattle.std.proofs.Common.{◌≡◌, ap, sym, ◌∙◌, subst, length, ◌≤◌, List, None}
use Rattle.core_state.proofs.FirstSteps.{stands-reserved}
use Rattle.core_state.specs.Core.{Core}
use Rattle.update_log.specs.Pasts.{past_of}
use Rattle.update_log.specs.Known.{basis_of}
use Rattle.update_plans.specs.Following.{IsQuiet}
use Rattle.update_plans.specs.Plans.{first_bad, plan, scene}
use Rattle.update_plans.specs.declared.plan.PlanStep.{PlanStep}
use Rattle.update_plans.proofs.Planned.{plan-few, plan-good}
use Rattle.update_plans.proofs.tops.make_plan.Goals as goal

pub plan_all-requires : goal.plan_all-requires
plan_all-requires g c =
    let s = scene (basis_of c.args.facts.now g.opening) c.args.client c.args.tag.now in
    (c.requires.0, (stands-reserved s.basis c.args.state.now c.in_ok-own.own c.in_ok-own.ensures c.requires.1.0, (subst (λ (core : Core). IsQuiet s (past_of core.log)) (sym c.in_ok-own.ensures) c.requires.1.1)))

pub returns-clause-planned : goal.returns-clause-planned
returns-clause-planned g c =
    let s = scene (basis_of c.args.facts.now g.opening) c.args.client c.args.tag.now in
    c.of.ensures ∙ c.in_ok-plan_all.ensures ∙ ap (λ (core : Core). plan s (past_of core.log)) c.in_ok-own.ensures

pub returns-clause-few : goal.returns-clause-few
returns-clause-few g c =
    let s = scene (basis_of c.args.facts.now g.opening) c.args.client c.args.tag.now in
    let planned = c.of.ensures ∙ c.in_ok-plan_all.ensures ∙ ap (λ (core : Core). plan s (past_of core.log)) c.in_ok-own.ensures in
    subst (λ (steps : List PlanStep). length steps ≤ 8192) (sym planned) (plan-few s (past_of c.args.state.now.log))

pub returns-clause-good : goal.returns-clause-good
returns-clause-good g c =
    let s = scene (basis_of c.args.facts.now g.opening) c.args.client c.args.tag.now in
    let planned = c.of.ensures ∙ c.in_ok-plan_all.ensures ∙ ap (λ (core : Core). plan s (past_of core.log)) c.in_ok-own.ensures in
    subst (λ (steps : List PlanStep). first_bad s 1 steps (past_of c.args.state.now.log) ≡ None) (sym planned) (plan-good s (past_of c.args.state.now.log))
