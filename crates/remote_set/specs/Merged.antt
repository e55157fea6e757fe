-- Remotes merged into one catalogue: the enabled ones by order, and each with its releases but those that one
-- before it has too.
use Rattle.std.specs.Prelude.{ℕ, suc, ◌==◌, nat_lt, Bool, ◌&&◌, ◌||◌, not, if◌then◌else◌, List, [], ◌∷◌, ◌++◌, map, filter, flat_map, Option, Some, None}
use Rattle.std.specs.List.{list_any}
use Rattle.std.specs.Str.{bytes_eq}
use Rattle.version_formats.specs.VersionOrder.{same_version}
use Rattle.fw_facts.specs.declared.release.Component.{Component}
use Rattle.release_catalogue.specs.Components.{releases_in}
use Rattle.remote_set.specs.declared.rank.Rank.{Rank}
use Rattle.remote_set.specs.declared.remote.Remote.{Remote}
use Rattle.remote_set.specs.Orders.{in_order}

-- ---- the order of remotes

-- A remote with its place among those that are handed in.
pub record Placed : Type 0 where
  pub place : ℕ
  pub remote : Remote

-- Remotes with their places, of which the first is this one.
abbrev pub placed_from : ℕ → List Remote → List Placed
placed_from place [] = []
placed_from place (remote ∷ remotes) = record { place = place; remote = remote } ∷ placed_from (suc place) remotes

abbrev pub rank_of : Placed → Rank
rank_of at = record { order = at.remote.order; place = at.place }

-- Of two remotes the one of the lower order comes first, and of one order the one of the lower place.
abbrev pub comes_before : Rank → Rank → Bool
comes_before first second = nat_lt first.order second.order || ((first.order == second.order) && nat_lt first.place second.place)

-- The enabled remotes in this order.
abbrev pub enabled_in_order : List Remote → List Placed
enabled_in_order remotes = in_order (λ at. at.remote.order) (λ at. at.remote.enabled) (placed_from 0 remotes)

-- ---- what is hidden

-- Some component of this ID has a release of an equal version.
abbrev pub offers : List ℕ → List ℕ → List Component → Bool
offers id version components =
    list_any (λ component. bytes_eq component.id id && list_any (λ release. same_version release.version version) component.releases) components

-- A release is hidden from a remote of this rank by an enabled one that comes before it and offers it too.
abbrev pub is_hidden : List Remote → Rank → List ℕ → List ℕ → Bool
is_hidden remotes rank id version =
    list_any (λ other. other.remote.enabled && (comes_before (rank_of other) rank && offers id version other.remote.catalogue)) (placed_from 0 remotes)

-- A component without the releases that a test of ID and version takes away.
abbrev pub without : (List ℕ → List ℕ → Bool) → Component → Component
without hides component = record component { releases = filter (λ release. not (hides component.id release.version)) component.releases }

-- The components of a remote with the releases that stay: all of them, also those that are left with none.
abbrev pub left_of : List Remote → Placed → List Component
left_of remotes at = map (without (is_hidden remotes (rank_of at))) at.remote.catalogue

-- ---- the merged catalogue

-- The components of the enabled remotes, in order, with the releases that stay.
unfoldable pub merged : List Remote → List Component
merged remotes = flat_map (left_of remotes) (enabled_in_order remotes)

-- How many releases of a remote stay: none of one that isn't enabled.
abbrev pub kept_of : List Remote → Placed → ℕ
kept_of remotes at = if at.remote.enabled then releases_in (left_of remotes at) else 0

-- The same of each remote, in the order handed in.
unfoldable pub kept : List Remote → List ℕ
kept remotes = map (kept_of remotes) (placed_from 0 remotes)

-- ---- what can't be merged

-- The name of the first of some remotes that one before it has too, where these stand before them all.
abbrev pub repeated_behind : List Remote → List Remote → Option (List ℕ)
repeated_behind before [] = None
repeated_behind before (remote ∷ remotes) =
    if list_any (λ earlier. bytes_eq earlier.name remote.name) before then Some remote.name else repeated_behind (before ++ remote ∷ []) remotes

abbrev pub first_repeated : List Remote → Option (List ℕ)
first_repeated remotes = repeated_behind [] remotes
