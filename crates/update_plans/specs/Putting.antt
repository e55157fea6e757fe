-- An install that is being put behind a log, event by event.
use Rattle.std.specs.Prelude.{◌≡◌, ℕ, true, List, [], ◌∷◌, Some, find, option_map, option_and_then, unwrap_or}
use Rattle.std.specs.Option.{option_map_or}
use Rattle.fw_facts.specs.declared.flags.DeviceFlag.{DeviceFlag}
use Rattle.fw_facts.specs.declared.release.Release.{Release}
use Rattle.fw_facts.specs.declared.seen.Seen.{Seen}
use Rattle.fw_facts.specs.declared.view.DeviceView.{DeviceView}
use Rattle.fw_facts.specs.Flags.{has_flag}
use Rattle.history_keeper.specs.declared.row.Row.{Row}
use Rattle.history_keeper.specs.declared.row.RowState.{RowState}
use Rattle.release_catalogue.specs.Lookup.{Chosen}
use Rattle.update_log.specs.declared.event.Event.{Event}
use Rattle.update_log.specs.declared.event.Op.{Op}
use Rattle.update_log.specs.declared.trace.Trace.{Trace}
use Rattle.core_state.specs.Core.{Core, Stands}
use Rattle.update_log.specs.Known.{row_of}
use Rattle.update_log.specs.Legal.{next_entry}
use Rattle.update_log.specs.Pasts.{past_of}
use Rattle.update_log.specs.Steps.{closing_of}
use Rattle.update_plans.specs.Following.{IsQuiet}
use Rattle.update_plans.specs.Plans.{Scene, has_id, is_good, is_good_with, release_at, shown_after, with_some}
use Rattle.update_plans.specs.declared.plan.PlanStep.{PlanStep}

-- The rows before the log, the number of the install's step, the past before it, and which steps of its entry were gone
-- through.
pub record Making : Type 0 where
  pub opening : List Row
  pub number : ℕ
  pub before : List Event
  pub gone : List Op

-- The state stands for the past before the install of a good step, whose release that is, and which gets that entry.
pub record Begins (s : Scene) (step : PlanStep) (at : Making) (release : Release) (entry : ℕ) (core : Core) : Type 0 where
  pub before_is : past_of core.log ≡ at.before
  pub stands : Stands s.basis core
  pub quiet : IsQuiet s at.before
  pub good : is_good s at.number step at.before ≡ true
  pub release_is : option_map (λ chosen. chosen.release) (release_at s step.release) ≡ Some release
  pub entry_is : entry ≡ next_entry s.basis at.before

-- The state stands for that past with the ask, the claim and some of the steps.
pub record IsPutting (s : Scene) (step : PlanStep) (at : Making) (core : Core) : Type 0 where
  pub chosen : Chosen
  pub there : release_at s step.release ≡ Some chosen
  pub good : is_good_with s at.number step at.before chosen ≡ true
  pub quiet : IsQuiet s at.before
  pub stands : Stands s.basis core
  pub past_is : past_of core.log ≡ with_some s at.number step chosen at.gone at.before

-- The steps that come before a step.
abbrev pub ops_before : Op → List Op
ops_before Op.Prepare = []
ops_before Op.Detach = Op.Prepare ∷ []
ops_before Op.Write = Op.Prepare ∷ Op.Detach ∷ []
ops_before Op.Attach = Op.Prepare ∷ Op.Detach ∷ Op.Write ∷ []
ops_before Op.Reload = Op.Prepare ∷ Op.Detach ∷ Op.Write ∷ Op.Attach ∷ []
ops_before Op.Cleanup = Op.Prepare ∷ Op.Detach ∷ Op.Write ∷ Op.Attach ∷ Op.Reload ∷ []

-- What the device of a plan's step shows at the end of a step of its entry, by the devices as they stand.
abbrev pub shown_on : List DeviceView → Op → PlanStep → Seen
shown_on views op step =
    option_map_or (λ view. shown_after op (has_flag DeviceFlag.NeedsReboot view.sheet.flags) step.raw view.seen) (find (has_id step.device) views) Seen.Gone

-- In which state an entry ends that has come so far, by its row and its device.
abbrev pub end_on : List Row → List DeviceView → List ℕ → ℕ → Trace → RowState
end_on rows views device entry t =
    unwrap_or (option_and_then (λ row. option_map (closing_of t row) (find (has_id device) views)) (row_of rows entry)) RowState.Begun
