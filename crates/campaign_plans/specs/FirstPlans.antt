-- The installs that are planned for the first boot of a document.
use Rattle.std.specs.Prelude.{◌≡◌, ◌≤◌, ◌==◌, ◌⊎◌, ℕ, List, [], ◌∷◌, length, None, if◌then◌else◌}
use Rattle.fw_facts.specs.declared.seen.Seen.{Seen}
use Rattle.history_keeper.specs.declared.row.Row.{Row}
use Rattle.update_log.specs.declared.event.Event.{Event}
use Rattle.update_log.specs.declared.facts.BootPlan.{BootPlan}
use Rattle.update_log.specs.declared.facts.Facts.{Facts}
use Rattle.core_state.specs.Core.{Stands}
use Rattle.update_log.specs.Pasts.{boots}
use Rattle.update_log.specs.Known.{basis_of}
use Rattle.first_boots.specs.FirstBoot.{first_boot}
use Rattle.update_plans.specs.Following.{IsQuiet}
use Rattle.update_plans.specs.Plans.{first_bad, plan, scene}
use Rattle.update_plans.specs.declared.plan.PlanStep.{PlanStep}
use Rattle.campaign_plans.specs.declared.first_plan.FirstPlan.{FirstPlan}

-- The log over which they are planned: the first boot alone, where there is one.
abbrev pub first_log : List BootPlan → List Seen → List Event
first_log [] shown = []
first_log (boot ∷ boots) shown = first_boot boot shown ∷ []

-- The installs for client 1 over a past; none where nothing was booted.
abbrev pub plan_after : Facts → List Row → List ℕ → List Event → List PlanStep
plan_after facts rows tag past = if boots past == 0 then [] else plan (scene (basis_of facts rows) 1 tag) past

-- The installs of these boots' first, of boards that show this.
abbrev pub first_steps : Facts → List Seen → List BootPlan → List Row → List ℕ → List PlanStep
first_steps facts shown boots rows tag = plan_after facts rows tag (first_log boots shown)

-- A plan may be made over the past, or nothing was booted.
abbrev pub CanBePlanned : Facts → List Row → List ℕ → List Event → Type 0
CanBePlanned facts rows tag past = (boots past ≡ 0) ⊎ IsQuiet (scene (basis_of facts rows) 1 tag) past

-- That plan, with the state over which it was made: its installs are those of the definition, at most 8,192,
-- and each of them is good after those before it.
pub record IsFirstPlan (facts : Facts) (shown : List Seen) (boots : List BootPlan) (rows : List Row) (tag : List ℕ) (first : FirstPlan) : Type 0 where
  pub stands : Stands (basis_of facts rows) first.state
  pub log : first.state.log ≡ first_log boots shown
  pub tag_is : first.plan.tag ≡ tag
  pub steps_are : first.plan.steps ≡ first_steps facts shown boots rows tag
  pub few : length first.plan.steps ≤ 8192
  pub good : first_bad (scene (basis_of facts rows) 1 tag) 1 first.plan.steps (first_log boots shown) ≡ None
