-- Looking up releases: the catalogue is a list of components, each with a list of releases.
use Rattle.std.specs.Prelude.{ℕ, Bool, List, Option, map, filter, find, flat_map}
use Rattle.std.specs.List.{list_any, enumerate_from}
use Rattle.std.specs.Str.{bytes_eq}
use Rattle.version_formats.specs.VersionOrder.{same_version}
use Rattle.fw_facts.specs.declared.release.Component.{Component}
use Rattle.fw_facts.specs.declared.release.Release.{Release}
use Rattle.release_catalogue.specs.declared.reference.ReleaseRef.{ReleaseRef}

-- A release of a catalogue, with its component and its places.
pub record Chosen : Type 0 where
  pub at : ReleaseRef
  pub component : Component
  pub release : Release

-- The releases of the component at a place, in order.
abbrev pub releases_of : ℕ → Component → List Chosen
releases_of place component =
    map
    (λ entry. record { at = record { component = place; release = entry.0 }; component = component; release = entry.1 })
    (enumerate_from 0 component.releases)

-- All releases, in catalogue order.
abbrev pub all_releases : List Component → List Chosen
all_releases components = flat_map (λ entry. releases_of entry.0 entry.1) (enumerate_from 0 components)

-- The component provides one of the GUIDs.
abbrev pub provides : List (List ℕ) → Component → Bool
provides guids component = list_any (λ own. list_any (λ guid. bytes_eq own guid) guids) component.provides

-- The releases whose component provides one of the GUIDs, in catalogue order.
abbrev pub matching : List Component → List (List ℕ) → List Chosen
matching components guids = filter (λ chosen. provides guids chosen.component) (all_releases components)

-- The first of them whose version is equal to this one.
unfoldable pub chosen : List Component → List (List ℕ) → List ℕ → Option Chosen
chosen components guids version = find (λ chosen. same_version chosen.release.version version) (matching components guids)
