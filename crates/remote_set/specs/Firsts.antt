-- Of which remote a merged release is.
use Rattle.std.specs.Prelude.{◌≡◌, ℕ, if◌then◌else◌, List, [], ◌∷◌, filter, flat_map}
use Rattle.std.specs.Str.{bytes_eq}
use Rattle.version_formats.specs.VersionOrder.{same_version}
use Rattle.fw_facts.specs.declared.release.Component.{Component}
use Rattle.fw_facts.specs.declared.release.Release.{Release}
use Rattle.remote_set.specs.declared.remote.Remote.{Remote}
use Rattle.remote_set.specs.Merged.{Placed, enabled_in_order, merged, offers}

-- What a component with this ID has of a version: the releases of an equal one.
abbrev pub offered_by : List ℕ → List ℕ → Component → List Release
offered_by id version component = if bytes_eq component.id id then filter (λ release. same_version release.version version) component.releases else []

-- The same of some components.
abbrev pub offered : List ℕ → List ℕ → List Component → List Release
offered id version components = flat_map (offered_by id version) components

-- What the first of some remotes has that offers it: nothing where none does.
abbrev pub of_first : List ℕ → List ℕ → List Placed → List Release
of_first id version [] = []
of_first id version (at ∷ more) = if offers id version at.remote.catalogue then offered id version at.remote.catalogue else of_first id version more

-- Of each ID and version the merged catalogue has what the first enabled remote has that offers it, and nothing else.
abbrev pub FirstWins : Type 0
FirstWins = (remotes : List Remote) (id version : List ℕ) → offered id version (merged remotes) ≡ of_first id version (enabled_in_order remotes)
