use Rattle.std.proofs.Common.{◌≡◌, ◌≤◌, ◌⊎◌, ℕ, List, length, MatchResult, None, Some, sym, subst}
use Rattle.core_state.proofs.FirstSteps.{stands-reserved}
use Rattle.core_state.specs.Core.{Core}
use Rattle.update_log.specs.Pasts.{past_of}
use Rattle.update_log.specs.Known.{basis_of}
use Rattle.update_plans.specs.Following.{IsQuiet}
use Rattle.update_plans.specs.Plans.{first_bad, scene}
use Rattle.update_plans.specs.declared.plan.PlanStep.{PlanStep}
use Rattle.update_plans.specs.declared.plan.PlanStop.TheVariants as stops
use Rattle.update_plans.proofs.tops.check_plan.Goals as goal

pub check_all-requires : goal.check_all-requires
check_all-requires g c =
    let s = scene (basis_of c.args.facts.now g.opening) c.args.client c.args.plan.now.tag in
    (c.requires.0, (subst (λ (steps : List PlanStep). length steps ≤ 8192) (sym c.items.ensures) c.requires.1.0, (stands-reserved s.basis c.args.state.now c.in_ok-own.own c.in_ok-own.ensures c.requires.1.1.0, (subst (λ (core : Core). IsQuiet s (past_of core.log)) (sym c.in_ok-own.ensures) c.requires.1.1.1))))

pub returns : goal.returns
returns g c =
    let s = scene (basis_of c.args.facts.now g.opening) c.args.client c.args.plan.now.tag in
    subst
    (λ (core : Core). MatchResult c.check_all.result (λ _. first_bad s 1 c.args.plan.now.steps (past_of core.log) ≡ None)
    (λ stop. (stop ≡ stops.NoMemory) ⊎ ((number : ℕ) × (stop ≡ stops.No number) × (first_bad s 1 c.args.plan.now.steps (past_of core.log) ≡ Some number)))) c.in_ok-own.ensures
    (subst
    (λ (steps : List PlanStep). MatchResult c.check_all.result (λ _. first_bad s 1 steps (past_of c.in_ok-own.own.log) ≡ None)
    (λ stop. (stop ≡ stops.NoMemory) ⊎ ((number : ℕ) × (stop ≡ stops.No number) × (first_bad s 1 steps (past_of c.in_ok-own.own.log) ≡ Some number)))) c.items.ensures c.check_all.ensures)
