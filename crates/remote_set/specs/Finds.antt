-- Whose release a look-up in the merged catalogue finds.
use Rattle.std.specs.Prelude.{◌≡◌, ℕ, Bool, ◌&&◌, not, All, List, [], ◌∷◌, Option, None, find, option_map}
use Rattle.std.specs.Option.{option_or}
use Rattle.version_formats.specs.VersionOrder.{same_version}
use Rattle.fw_facts.specs.declared.release.Component.{Component}
use Rattle.fw_facts.specs.declared.release.Release.{Release}
use Rattle.release_catalogue.specs.Lookup.{Chosen, chosen, matching, provides}
use Rattle.remote_set.specs.declared.remote.Remote.{Remote}
use Rattle.remote_set.specs.Merged.{Placed, enabled_in_order, is_hidden, merged, rank_of}

-- A release that is found, and its component but for the list of its releases, from which merging takes some away.
abbrev pub what_is_found : Chosen → Component × Release
what_is_found found = (record found.component { releases = [] }, found.release)

-- The answer of the first of some remotes that has one.
abbrev pub first_answer : {A : Type 0} → (Placed → Option A) → List Placed → Option A
first_answer answer [] = None
first_answer answer (at ∷ more) = option_or (answer at) (first_answer answer more)

-- What a look-up finds in a remote among the releases that no enabled remote before it offers too.
abbrev pub found_unhidden : List Remote → List (List ℕ) → List ℕ → Placed → Option Chosen
found_unhidden remotes guids version at =
    find
    (λ found. same_version found.release.version version && not (is_hidden remotes (rank_of at) found.component.id found.release.version))
    (matching at.remote.catalogue guids)

-- A look-up in the merged catalogue finds what it finds so in the first enabled remote where it finds anything.
abbrev pub FindsUnhidden : Type 0
FindsUnhidden =
    (remotes : List Remote) (guids : List (List ℕ)) (version : List ℕ)
    → option_map what_is_found (chosen (merged remotes) guids version)
    ≡ option_map what_is_found (first_answer (found_unhidden remotes guids version) (enabled_in_order remotes))

-- In each enabled remote the ID of a component tells whether it provides one of the GUIDs.
abbrev pub IdsTell : List Remote → List (List ℕ) → (List ℕ → Bool) → Type 0
IdsTell remotes guids is_for = All (λ at. All (λ component. provides guids component ≡ is_for component.id) at.remote.catalogue) (enabled_in_order remotes)

-- Where that is so, a look-up in the merged catalogue finds what it finds in the first enabled remote where it finds
-- anything. Elsewhere a component that provides none of the GUIDs can hide a release of one that does.
abbrev pub FindsFirst : Type 0
FindsFirst =
    (remotes : List Remote) (guids : List (List ℕ)) (version : List ℕ) (is_for : List ℕ → Bool) → IdsTell remotes guids is_for
    → option_map what_is_found (chosen (merged remotes) guids version)
    ≡ option_map what_is_found (first_answer (λ at. chosen at.remote.catalogue guids version) (enabled_in_order remotes))
