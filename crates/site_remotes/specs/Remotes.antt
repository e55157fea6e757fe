-- The section `remotes`: the lines of a `do` are the fields in their order.
use Rattle.std.specs.Prelude.{◌≤◌, ◌+◌, ℕ, List, [], ◌∷◌, ◌++◌, length, codes, sum_by, nat_lt, true, Result, Ok}
use Rattle.std.specs.List.{list_any}
use Rattle.std.specs.Str.{bytes_eq}
use Rattle.serde_json.specs.Data.{Data, Items, no_items, item}
use Rattle.fw_facts.specs.declared.release.Component.{Component}
use Rattle.release_catalogue.specs.declared.component.Taken.{Taken}
use Rattle.release_catalogue.specs.declared.reason.Reason.TheVariants.{Repeated, TooMany}
use Rattle.release_catalogue.specs.declared.spot.Level.TheVariants.{First, Second}
use Rattle.release_catalogue.specs.declared.spot.Spot.{Spot}
use Rattle.release_catalogue.specs.declared.spot.Fault.{Fault}
use Rattle.release_catalogue.specs.declared.word.Word.TheVariants as words
use Rattle.release_catalogue.specs.Components.{components_behind, releases_in}
use Rattle.release_catalogue.specs.Kinds.{bool_at, items_at, items_len, name_at, number_at, object_at}
use Rattle.release_catalogue.specs.Reading.{◌>>=◌, entry_spot, field_of, optional, refuse_if, the}
use Rattle.remote_set.specs.declared.remote.Remote.{Remote}

-- The section `components` as a remote.
abbrev pub local : List Component → Remote
local catalogue = record { name = codes "local"; order = 0; enabled = true; catalogue = catalogue }

-- How many components and releases some remotes have.
abbrev pub components_of : List Remote → ℕ
components_of remotes = sum_by (λ remote. length remote.catalogue) remotes

abbrev pub releases_of : List Remote → ℕ
releases_of remotes = sum_by (λ remote. releases_in remote.catalogue) remotes

abbrev pub taken_by : List Remote → Taken
taken_by remotes = record { components = components_of remotes; releases = releases_of remotes }

-- They are within the limits of a document.
pub record IsWithin (remotes : List Remote) : Type 0 where
  pub few : components_of remotes ≤ 4096
  pub few_releases : releases_of remotes ≤ 20000

-- A name that none of the remotes before has.
abbrev pub new_name_at : List Remote → Spot → Data → Result (List ℕ) Fault
new_name_at earlier spot d = do
  name ← name_at spot d
  new ← refuse_if (list_any (λ other. bytes_eq other.name name) earlier) spot Repeated
  Ok name

-- The components of a remote at a place, behind those of the remotes before.
abbrev pub components_in : List Remote → Spot → Spot → Data → Result (List Component) Fault
components_in earlier base spot d = components_behind (taken_by earlier) Second spot (field_of base words.Entry) d

-- A remote behind others of the document.
unfoldable pub remote_at : List Remote → Spot → Data → Result Remote Fault
remote_at earlier spot d = do
  here ← object_at spot d
  name ← the spot words.Name (new_name_at earlier) d
  order ← optional spot words.Order (number_at 0 1000) 0 d
  enabled ← optional spot words.Enabled bool_at true d
  catalogue ← the spot words.Components (components_in earlier spot) d
  Ok (record { name = name; order = order; enabled = enabled; catalogue = catalogue })

-- The place of the section's entries, without an index.
abbrev pub remote_spot : Spot
remote_spot = record { section = words.Remotes; index = 0 ∷ 0 ∷ 0 ∷ []; field = words.Entry }

-- Remotes of the section, of which the first has this place, behind those of the document before them.
abbrev pub each_remote : ℕ → List Remote → Items → Result (List Remote) Fault
each_remote i earlier no_items = Ok earlier
each_remote i earlier (item d ds) = do
  remote ← remote_at earlier (entry_spot remote_spot First i) d
  each_remote (i + 1) (earlier ++ remote ∷ []) ds

-- The section: up to 16 remotes, behind the one that the document has of its own.
abbrev pub remotes_at : Remote → Spot → Data → Result (List Remote) Fault
remotes_at own spot d = do
  ds ← items_at spot d
  fits ← refuse_if (nat_lt 16 (items_len ds)) spot TooMany
  each_remote 0 (own ∷ []) ds
