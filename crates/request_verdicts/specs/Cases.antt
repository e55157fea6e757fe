-- What the code hands to a decision, as a case.
use Rattle.std.specs.Prelude.{◌≡◌, ℕ, ◌<◌, ◌^◌, IsTrue, List, [], ◌∷◌, length, Option, Some, slice_get}
use Rattle.device_list.specs.declared.selector.Selector.{Selector}
use Rattle.device_list.specs.Lists.{place}
use Rattle.fw_facts.specs.Views.{is_home}
use Rattle.fw_facts.specs.declared.release.Component.{Component}
use Rattle.fw_facts.specs.declared.release.Release.{Release}
use Rattle.fw_facts.specs.declared.view.DeviceView.{DeviceView}
use Rattle.history_keeper.specs.declared.row.Row.{Row}
use Rattle.release_catalogue.specs.declared.reference.ReleaseRef.{ReleaseRef}
use Rattle.update_log.specs.declared.decision.Stage.{Stage}
use Rattle.update_log.specs.declared.facts.Facts.{Facts}
use Rattle.update_log.specs.declared.live.Held.{Held}
use Rattle.update_log.specs.declared.live.LiveEntry.{LiveEntry}
use Rattle.update_log.specs.declared.request.Request.{Request}
use Rattle.update_log.specs.Holding.{blocks_out}
use Rattle.update_log.specs.Known.{Target}
use Rattle.update_log.specs.declared.refusal.Refusal.{Refusal}
use Rattle.update_log.specs.Verdicts.{Case, busy, unsettled, retry, not_updatable, locked, hindered, installed, older, unmet, vetoed, out_of_size, no_room, rows_full}

-- Each component has fewer requirements than 2^32, so that a number of 32 bits names the first one that
-- doesn't hold.
abbrev pub HasFew : List Component → Type 0
HasFew catalogue = (at : ℕ) (component : Component) → slice_get catalogue at ≡ Some component → length component.requirements < 2 ^ 32

-- The case of these parts.
abbrev pub case_with : Facts → List DeviceView → List Row → List LiveEntry → List Held → ℕ → Request → Stage → Case
case_with facts views rows live holds client request stage =
    record {
      facts = facts;
      views = views;
      rows = rows;
      live = live;
      held = blocks_out holds live;
      client = client;
      request = request;
      stage = stage;
    }

-- The target of these parts.
abbrev pub target_with : ℕ → DeviceView → ReleaseRef → Component → Release → Target
target_with place view at component release =
    record { place = place; view = view; chosen = record { at = at; component = component; release = release } }

-- The selector finds the device at this place, and it is present.
pub record IsPresent (views : List DeviceView) (selector : Selector) (at : ℕ) : Type 0 where
  pub found : place selector views ≡ Some at
  pub within : at < length views
  pub home : (view : DeviceView) → slice_get views at ≡ Some view → IsTrue (is_home view.seen)

-- What may refuse a request, in order, in five parts.
abbrev pub row_refusals : Case → Target → List (Option Refusal)
row_refusals c t = busy c t ∷ unsettled c t ∷ retry c t ∷ []

abbrev pub device_refusals : Case → Target → List (Option Refusal)
device_refusals c t = not_updatable c t ∷ locked c t ∷ hindered c t ∷ []

abbrev pub version_refusals : Case → Target → List (Option Refusal)
version_refusals c t = installed c t ∷ older c t ∷ []

abbrev pub rule_refusals : Case → Target → List (Option Refusal)
rule_refusals c t = unmet c t ∷ vetoed c t ∷ []

abbrev pub room_refusals : Case → Target → List (Option Refusal)
room_refusals c t = out_of_size c t ∷ no_room c t ∷ rows_full c t ∷ []
