-- What a plan is made over, and what it promises of the log as it then goes on.
use Rattle.std.specs.Prelude.{◌≡◌, ◌≢◌, ℕ, ◌+◌, ◌<◌, Bool, true, false, ◌&&◌, ◌==◌, List, [], ◌∷◌, ◌++◌, All, length, Option, Some, None}
use Rattle.std.specs.Str.{bytes_eq}
use Rattle.fw_facts.specs.declared.seen.Mode.{Mode}
use Rattle.fw_facts.specs.declared.seen.Seen.{Seen}
use Rattle.fw_facts.specs.declared.view.DeviceView.{DeviceView}
use Rattle.fw_facts.specs.Views.{version_of}
use Rattle.history_keeper.specs.Histories.{IsHistory}
use Rattle.history_keeper.specs.declared.row.RowState.{RowState}
use Rattle.release_catalogue.specs.Lookup.{Chosen}
use Rattle.release_catalogue.specs.declared.reference.ReleaseRef.{ReleaseRef}
use Rattle.update_log.specs.Holding.{holds, live}
use Rattle.update_log.specs.Legal.{BelowLimit, IsLegal, IsLegalUnlimited}
use Rattle.update_log.specs.Pasts.{boots, off}
use Rattle.update_log.specs.Steps.{in_runtime, mode_of}
use Rattle.update_log.specs.Verdicts.{verdict}
use Rattle.update_log.specs.Shows.{campaign_on}
use Rattle.update_log.specs.declared.answer.AskAnswer.{AskAnswer}
use Rattle.update_log.specs.declared.answer.ClaimAnswer.{ClaimAnswer}
use Rattle.update_log.specs.declared.decision.Stage.{Stage}
use Rattle.update_log.specs.declared.event.Event.{Event}
use Rattle.update_log.specs.declared.event.Stored.{Stored}
use Rattle.update_log.specs.declared.refusal.FetchNote.{FetchNote}
use Rattle.update_plans.specs.Plans.{Scene, accepts, first_bad, installed, is_ended, release_at, request_of, view_of}
use Rattle.update_plans.specs.declared.plan.PlanStep.{PlanStep}
use Rattle.update_log.specs.declared.facts.BootPlan.{BootPlan}

-- A plan may be made over the past: it is legal in some campaign over its basis, or would be if its boots had no
-- limit; the history before it is valid, its boot runs and isn't off, nobody has a hold or a live entry, and the
-- client is none of the daemon's own.
pub record IsQuiet (s : Scene) (past : List Event) : Type 0 where
  pub first : List Seen
  pub plans : List BootPlan
  pub legal : IsLegalUnlimited (campaign_on s.basis first plans) past
  pub history : IsHistory s.basis.opening
  pub booted : 0 < boots past
  pub on : off past ≡ false
  pub no_hold : holds past ≡ []
  pub none_live : live past ≡ []
  pub client : s.client ≢ 0

-- The event begins or ends a step of the entry, by that client.
abbrev pub is_step_of : ℕ → ℕ → Event → Bool
is_step_of client entry (Event.Start by of op) = (by == client) && (of == entry)
is_step_of client entry (Event.End by of op outcome told seen) = (by == client) && (of == entry)
is_step_of client entry _ = false

-- A past goes on by an install of that request, from its ask to its finish, which ends in that state.
pub record IsPlayed (s : Scene) (number : ℕ) (step : PlanStep) (chosen : Chosen) (past now : List Event) : Type 0 where
  pub entry : ℕ
  pub blocks : ℕ
  pub release : ReleaseRef
  pub fetched : FetchNote
  pub state : RowState
  pub stored : Stored
  pub steps : List Event
  pub are_steps : All (λ event. is_step_of s.client entry event ≡ true) steps
  pub ended : is_ended state ≡ true
  pub goes_on : now
      ≡ Event.Finish s.client entry state stored ∷ steps
      ++ Event.Claim s.client (request_of s number step chosen) fetched (ClaimAnswer.Entry entry)
      ∷ Event.Ask s.client (request_of s number step chosen) None (AskAnswer.Hold blocks release) ∷ past

-- Two devices show one version text, in one mode.
abbrev pub is_version : Option (List ℕ) → Option (List ℕ) → Bool
is_version None None = true
is_version None (Some right) = false
is_version (Some left) None = false
is_version (Some left) (Some right) = bytes_eq left right

abbrev pub is_mode : Mode → Mode → Bool
is_mode Mode.Runtime mode = in_runtime mode
is_mode Mode.Bootloader Mode.Runtime = false
is_mode Mode.Bootloader Mode.Bootloader = true

abbrev pub shows_alike : Option DeviceView → Option DeviceView → Bool
shows_alike None None = true
shows_alike None (Some right) = false
shows_alike (Some left) None = false
shows_alike (Some left) (Some right) = is_version (version_of left) (version_of right) && is_mode (mode_of left.seen) (mode_of right.seen)

-- A past goes on by plays of these steps, one after the other and nothing between, each of which ended well;
-- and then the device shows what it shows where nothing fails.
pub data IsFollowed (s : Scene) : ℕ → List PlanStep → List Event → List Event → List Event → Type 0 where
  Stays : (number : ℕ) (planned past : List Event) → IsFollowed s number [] planned past past
  GoesOn : (number : ℕ) (step : PlanStep) (steps : List PlanStep) (chosen : Chosen) (planned past next now : List Event)
      → release_at s step.release ≡ Some chosen → IsPlayed s number step chosen past next
      → shows_alike (view_of s step.device next) (view_of s step.device (installed s number step planned)) ≡ true
      → IsFollowed s (number + 1) steps (installed s number step planned) next now
      → IsFollowed s number (step ∷ steps) planned past now

-- The next step of a good plan is accepted after every legal log that goes on so, in a boot that isn't off and
-- is below its limit.
abbrev pub IsAcceptedNext : Scene → List PlanStep → PlanStep → List PlanStep → List Event → List Event → Type 0
IsAcceptedNext s done step more past now =
    (first : List Seen) (plans : List BootPlan) (chosen : Chosen) → IsLegal (campaign_on s.basis first plans) now → IsQuiet s past
    → first_bad s 1 (done ++ step ∷ more) past ≡ None → IsFollowed s 1 done past past now
    → off now ≡ false → BelowLimit now → release_at s step.release ≡ Some chosen
    → accepts step.release (verdict s.basis now s.client (request_of s (length done + 1) step chosen) Stage.Ask) ≡ true
