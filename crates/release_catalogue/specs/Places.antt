-- Places of components and releases, and an index of them by GUID.
use Rattle.std.specs.Prelude.{◌≡◌, ◌≤◌, All, ℕ, ◌==◌, Bool, false, List, [], ◌∷◌, length, Option, option_map, slice_get, find, map, filter}
use Rattle.std.specs.List.{list_any, enumerate_from, flat_map}
use Rattle.std.specs.Map.{lookup}
use Rattle.std.specs.Option.{option_map_or}
use Rattle.std.specs.Str.{bytes_eq}
use Rattle.std.specs.declared.alloc.Global.{Global}
use Rattle.std.specs.declared.vec.Vec.{Vec}
use Rattle.version_formats.specs.VersionOrder.{same_version}
use Rattle.fw_facts.specs.declared.release.Component.{Component}
use Rattle.fw_facts.specs.declared.release.Release.{Release}
use Rattle.release_catalogue.specs.declared.reference.ReleaseRef.{ReleaseRef}
use Rattle.release_catalogue.specs.Components.{releases_in}
use Rattle.release_catalogue.specs.Lookup.{Chosen, chosen, matching, provides, releases_of}

-- The place of the release that is chosen.
abbrev pub chosen_place : List Component → List (List ℕ) → List ℕ → Option ReleaseRef
chosen_place components guids version = option_map (λ chosen. chosen.at) (chosen components guids version)

-- The places of the releases that match, in catalogue order.
abbrev pub matching_places : List Component → List (List ℕ) → List ReleaseRef
matching_places components guids = map (λ chosen. chosen.at) (matching components guids)

-- The component at a place provides one of the GUIDs.
abbrev pub provides_at : List (List ℕ) → ℕ → List Component → Bool
provides_at guids place components = option_map_or (provides guids) (slice_get components place) false

-- The places that stand under a GUID.
abbrev pub listed : List ℕ → List (List ℕ × Vec ℕ Global) → List ℕ
listed guid entries = option_map_or (λ places. places.items) (lookup (bytes_eq guid) entries) []

abbrev pub is_listed : List ℕ → ℕ → List (List ℕ × Vec ℕ Global) → Bool
is_listed guid place entries = list_any (λ at. at == place) (listed guid entries)

-- Under each GUID stand the places of the components that provide it.
abbrev pub IsIndexOf : List (List ℕ × Vec ℕ Global) → List Component → Type 0
IsIndexOf entries components = (guid : List ℕ) (place : ℕ) → is_listed guid place entries ≡ provides_at (guid ∷ []) place components

-- The first of some releases, the first of which has this place, whose version is equal.
abbrev pub first_equal : List ℕ → ℕ → List Release → Option ℕ
first_equal version place releases = option_map (λ entry. entry.0) (find (λ entry. same_version entry.1.version version) (enumerate_from place releases))

-- The matching releases of some components, the first of which has this place.
abbrev pub matching_from : List (List ℕ) → ℕ → List Component → List Chosen
matching_from guids place components =
    filter (λ chosen. provides guids chosen.component) (flat_map (λ entry. releases_of entry.0 entry.1) (enumerate_from place components))

-- What a catalogue keeps: its components are few, their releases and requirements too, and the index is theirs.
pub record IsKept (components : List Component) (entries : List (List ℕ × Vec ℕ Global)) : Type 0 where
  pub few : length components ≤ 4096
  pub few_releases : releases_in components ≤ 20000
  pub few_requirements : All (λ c. length c.requirements ≤ 64) components
  pub index : IsIndexOf entries components
