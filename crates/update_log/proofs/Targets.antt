-- The target of a request, from what was found.
use Rattle.std.proofs.Common.{◌≡◌, ℕ, List, refl, sym, ap, ◌∙◌, ◌<◌, length, get_or}
use Rattle.std.specs.Prelude.{Option, Some, option_map, option_and_then, slice_get}
use Rattle.std.proofs.lemmas.Option.{slice_get_read}
use Rattle.fw_facts.specs.Views.{guids_of}
use Rattle.fw_facts.specs.declared.view.DeviceView.{DeviceView}
use Rattle.release_catalogue.specs.Lookup.{Chosen, chosen}
use Rattle.update_log.specs.Known.{Target, target_at, target_of}
use Rattle.update_log.specs.declared.facts.Facts.{Facts}

pub at-index : {X : Type 0} (xs : List X) (i : ℕ) (x : X) → i < length xs → x ≡ get_or xs i x → slice_get xs i ≡ Some x
at-index xs i x lt e = slice_get_read xs (length xs) i x refl lt e

pub target-by : (facts : Facts) (views : List DeviceView) (version : List ℕ) (place : ℕ) (view : DeviceView) (found : Option Chosen)
    → slice_get views place ≡ Some view → chosen facts.catalogue (guids_of view) version ≡ found
    → option_map (λ c. let t : Target = record { place = place; view = view; chosen = c } in t) found ≡ target_at facts views version place
target-by facts views version place view found e h =
    sym (ap (λ o. option_and_then (target_of facts version place) o) e ∙ ap (λ o. option_map (λ c. let t : Target = record { place = place; view = view; chosen = c } in t) o) h)
