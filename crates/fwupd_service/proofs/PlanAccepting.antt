-- That `update` accepts the next planned install, where those before it ended well.
use Rattle.std.proofs.Common.{◌≡◌, ℕ, ◌+◌, true, false, List, [], ◌∷◌, ◌++◌, length, map, refl, ap, sym, ◌∙◌, subst, arith}
use Rattle.std.specs.Prelude.{None, Some}
use Rattle.fw_facts.specs.declared.seen.Seen.{Seen}
use Rattle.history_keeper.specs.Histories.{IsHistory}
use Rattle.release_catalogue.specs.Lookup.{Chosen}
use Rattle.release_catalogue.specs.declared.reference.ReleaseRef.{ReleaseRef}
use Rattle.update_log.specs.declared.decision.Decision.{Decision}
use Rattle.update_log.specs.declared.decision.Stage.{Stage}
use Rattle.update_log.specs.declared.event.Event.{Event}
use Rattle.update_log.specs.declared.facts.BootPlan.{BootPlan}
use Rattle.update_log.specs.Legal.{AskAllowed, BelowLimit, IsLegal, ask_answer}
use Rattle.update_log.specs.Pasts.{off}
use Rattle.update_log.specs.Shows.{campaign_on, Campaign}
use Rattle.update_log.specs.Verdicts.{verdict}
use Rattle.update_log.specs.Known.{Basis, basis_of}
use Rattle.update_log.proofs.Unlimited.{unlimited}
use Rattle.first_boots.specs.FirstBoot.{first_boot}
use Rattle.update_plans.specs.declared.plan.PlanStep.{PlanStep}
use Rattle.update_plans.specs.Following.{IsAcceptedNext, IsFollowed, IsQuiet}
use Rattle.update_plans.specs.Plans.{Scene, accepts, first_bad, installed, release_at, request_of, scene}
use Rattle.update_plans.proofs.Planned.{plan-good}
use Rattle.daemon_core.specs.House.{shown_by}
use Rattle.campaign_plans.specs.FirstPlans.{first_log, first_steps}
use Rattle.fwupd_service.specs.Complete.{IsHeld, UpdateAccepts}

-- What a past goes on from is legal where it is.
legal-behind : (c : Campaign) (new past : List Event) → IsLegal c (new ++ past) → IsLegal c past
legal-behind c [] past l = l
legal-behind c (event ∷ new) past l = legal-behind c new past l.0

-- So is what plays go on from.
legal-before : (c : Campaign) (s : Scene) (number : ℕ) (steps : List PlanStep) (planned past now : List Event) → IsFollowed s number steps planned past now → IsLegal c now → IsLegal c past
legal-before c s _ _ _ _ _ (IsFollowed.Stays number planned past) l = l
legal-before c s _ _ _ _ _ (IsFollowed.GoesOn number step steps chosen planned past next now there played alike more) l =
    let legal : IsLegal c next = legal-before c s (number + 1) steps (installed s number step planned) next now more l in
    let behind = legal-behind c (Event.Finish s.client played.entry played.state played.stored ∷ played.steps) _ (subst (λ (x : List Event). IsLegal c x) played.goes_on legal) in
    behind.0.0

-- A plan may be made over a first boot that is legal.
quiet-first : (c : Campaign) (tag : List ℕ) (boot : BootPlan) (shown : List Seen) → IsHistory c.basis.opening → IsLegal c (first_boot boot shown ∷ []) → IsQuiet (scene c.basis 1 tag) (first_boot boot shown ∷ [])
quiet-first c tag boot shown history l = record {
  first = c.first;
  plans = c.plans;
  legal = unlimited c (first_boot boot shown ∷ []) l;
  history = history;
  booted = omega arith;
  on = refl;
  no_hold = refl;
  none_live = refl;
  client = λ e. cc;
}

-- What is accepted is held.
held-of : (at : ReleaseRef) (decision : Decision) → accepts at decision ≡ true → IsHeld (ask_answer decision)
held-of at (Decision.Accept device release blocks) e = tt
held-of at (Decision.Kept entry state) e = cc
held-of at (Decision.Refused refusal) e = cc

module _ (law : (s : Scene) (done : List PlanStep) (step : PlanStep) (more : List PlanStep) (past now : List Event) → IsAcceptedNext s done step more past now) where
  accepted : (basis : Basis) (shown : List Seen) (boots plans : List BootPlan) (tag : List ℕ) (done : List PlanStep) (step : PlanStep) (more : List PlanStep) (chosen : Chosen) (now : List Event)
      → IsLegal (campaign_on basis shown plans) now → release_at (scene basis 1 tag) step.release ≡ Some chosen
      → first_steps basis.facts shown boots basis.opening tag ≡ done ++ step ∷ more → IsHistory basis.opening
      → IsFollowed (scene basis 1 tag) 1 done (first_log boots shown) (first_log boots shown) now → off now ≡ false → BelowLimit now
      → accepts step.release (verdict basis now 1 (request_of (scene basis 1 tag) (length done + 1) step chosen) Stage.Ask) ≡ true
  accepted basis shown [] plans tag [] step more chosen now l release steps history followed on below = let none : [] ≡ step ∷ more = steps in cc
  accepted basis shown [] plans tag (d ∷ done) step more chosen now l release steps history followed on below = let none : [] ≡ d ∷ (done ++ step ∷ more) = steps in cc
  accepted basis shown (boot ∷ boots) plans tag done step more chosen now l release steps history followed on below =
      let s = scene basis 1 tag in
      let c = campaign_on basis shown plans in
      let first : List Event = first_boot boot shown ∷ [] in
      let good : first_bad s 1 (done ++ step ∷ more) first ≡ None = ap (λ (x : List PlanStep). first_bad s 1 x first) (sym steps) ∙ plan-good s first in
      let quiet = quiet-first c tag boot shown history (legal-before c s 1 done first first now followed l) in
      law s done step more first now shown plans chosen l quiet good followed on below release

  pub update-accepts : UpdateAccepts
  update-accepts =
      λ campaign opening tag done step more chosen log past now answer legal goes release steps history followed on below.
      let shown = map shown_by campaign.boards.items in
      let basis = basis_of campaign.facts opening in
      let c = campaign_on basis shown campaign.boots in
      let request = request_of (scene basis 1 tag) (length done + 1) step chosen in
      let asked : IsLegal c (Event.Ask 1 request None answer ∷ now) = legal-behind c past (Event.Ask 1 request None answer ∷ now) (subst (λ (x : List Event). IsLegal c x) goes legal) in
      let allowed : AskAllowed basis now 1 request None answer = asked.2 in
      subst IsHeld (sym allowed.answer_is)
      (held-of step.release (verdict basis now 1 request Stage.Ask)
      (accepted basis shown campaign.boots campaign.boots tag done step more chosen now asked.0 release steps history followed on below))
