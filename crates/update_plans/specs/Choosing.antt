-- Releases from the highest down.
use Rattle.std.specs.Prelude.{◌≡◌, ℕ, ◌==◌, ◌&&◌, ◌||◌, nat_lt, Bool, false, not, List, [], ◌∷◌, AllPairs, Option, Some, None, find, option_map, option_and_then, if◌then◌else◌}
use Rattle.std.specs.List.Sorted.{IsPermutation}
use Rattle.std.specs.Option.{option_map_or}
use Rattle.std.specs.Ordering.{is_gt, is_lt}
use Rattle.std.specs.declared.cmp.Ordering.{Ordering}
use Rattle.std.specs.declared.cmp.Ordering.TheVariants.{Less, Equal, Greater}
use Rattle.fw_facts.specs.declared.seen.Mode.{Mode}
use Rattle.fw_facts.specs.declared.seen.Seen.{Seen}
use Rattle.fw_facts.specs.declared.view.DeviceView.{DeviceView}
use Rattle.version_formats.specs.VersionOrder.{version_cmp}
use Rattle.release_catalogue.specs.declared.reference.ReleaseRef.{ReleaseRef}
use Rattle.release_catalogue.specs.Lookup.{all_releases}
use Rattle.release_catalogue.specs.Places.{matching_places}
use Rattle.update_log.specs.declared.facts.Facts.{Facts}
use Rattle.update_log.specs.Verdicts.{is_release}
use Rattle.update_log.specs.declared.event.Event.{Event}
use Rattle.update_plans.specs.Plans.{Scene, is_good}
use Rattle.update_plans.specs.RawNumbers.{raw_of}
use Rattle.update_plans.specs.declared.plan.PlanStep.{PlanStep}

-- The version of the release at a place of the catalogue.
abbrev pub version_at : Facts → ReleaseRef → List ℕ
version_at facts at =
    option_map_or (λ chosen. chosen.release.version) (find (λ chosen. is_release chosen.at at) (all_releases facts.catalogue)) []

-- The same, where there is a release.
abbrev pub version_found : Facts → ReleaseRef → Option (List ℕ)
version_found facts at = option_map (λ chosen. chosen.release.version) (find (λ chosen. is_release chosen.at at) (all_releases facts.catalogue))

-- Versions in their order, and none below all.
abbrev pub found_cmp : Option (List ℕ) → Option (List ℕ) → Ordering
found_cmp None None = Equal
found_cmp None (Some b) = Less
found_cmp (Some a) None = Greater
found_cmp (Some a) (Some b) = version_cmp a b

-- The one release has a higher version than the other.
abbrev pub is_higher : Facts → ReleaseRef → ReleaseRef → Bool
is_higher facts a b = is_lt (found_cmp (version_found facts b) (version_found facts a))

-- The one place stands before the other in the catalogue.
abbrev pub comes_before : ReleaseRef → ReleaseRef → Bool
comes_before a b = nat_lt a.component b.component || ((a.component == b.component) && nat_lt a.release b.release)

-- The one release goes before the other: it has the higher version, or no lower one and the earlier place.
abbrev pub goes_first : Facts → ReleaseRef → ReleaseRef → Bool
goes_first facts a b = is_higher facts a b || (not (is_higher facts b a) && comes_before a b)

-- The releases that match the GUIDs, none behind one that it goes before.
pub record IsHighestFirst (facts : Facts) (guids : List (List ℕ)) (places : List ReleaseRef) : Type 0 where
  pub same : IsPermutation (matching_places facts.catalogue guids) places
  pub falling : AllPairs (λ a b. goes_first facts b a ≡ false) places

-- The step that puts a release of that place and version on a device, where it has a raw number and is good.
abbrev pub where_good : Scene → ℕ → List Event → PlanStep → Option PlanStep
where_good s number past step = if is_good s number step past then Some step else None

abbrev pub good_step : Scene → ℕ → DeviceView → ReleaseRef → List ℕ → List Event → Option PlanStep
good_step s number view at version past =
    option_and_then (λ raw. where_good s number past (record { device = view.sheet.device; release = at; raw = raw })) (raw_of view.sheet.format version)

-- What is tried: place after place, as long as a release stands there whose version is above the one that is shown.
abbrev pub first_some : Option PlanStep → Option PlanStep → Option PlanStep
first_some None other = other
first_some (Some step) other = Some step

abbrev pub tried_at : Scene → ℕ → DeviceView → List ℕ → List Event → ReleaseRef → Option PlanStep → Option (List ℕ) → Option PlanStep
tried_at s number view shown past at more None = None
tried_at s number view shown past at more (Some version) =
    if is_gt (version_cmp version shown) then first_some (good_step s number view at version past) more else None

abbrev pub tried : Scene → ℕ → DeviceView → List ℕ → List Event → List ReleaseRef → Option PlanStep
tried s number view shown past [] = None
tried s number view shown past (at ∷ rest) =
    tried_at s number view shown past at (tried s number view shown past rest) (version_found s.basis.facts at)

-- The side that a port shows, of a board that is there.
abbrev pub side_of : Seen → Option Mode
side_of (Seen.Home raw mode) = Some mode
side_of Seen.Gone = None
side_of Seen.Stranger = None
