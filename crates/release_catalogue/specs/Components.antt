-- The components of a catalogue. The lines of a `do` are the fields in their order: word, kind, default.
use Rattle.std.specs.Prelude.{ℕ, ◌+◌, List, [], ◌∷◌, length, codes, sum_by, nat_lt, ◌||◌, if◌then◌else◌, None, Result, Ok}
use Rattle.fw_facts.specs.declared.release.Release.{Release}
use Rattle.fw_facts.specs.declared.release.Component.{Component}
use Rattle.serde_json.specs.Data.{Data}
use Rattle.release_catalogue.specs.declared.word.Word.TheVariants as words
use Rattle.release_catalogue.specs.declared.component.Custom.{Custom}
use Rattle.release_catalogue.specs.declared.component.Taken.{Taken}
use Rattle.release_catalogue.specs.declared.reason.Reason.TheVariants.{TooMany}
use Rattle.release_catalogue.specs.declared.spot.Level.{Level}
use Rattle.release_catalogue.specs.declared.spot.Level.TheVariants.{Whole, First, Second, Third}
use Rattle.release_catalogue.specs.declared.spot.Spot.{Spot}
use Rattle.release_catalogue.specs.declared.spot.Fault.{Fault}
use Rattle.release_catalogue.specs.Reading.{◌>>=◌, at_spot, each, entry_spot, maybe_here, optional, refuse_if, the}
use Rattle.release_catalogue.specs.Kinds.{digest_at, guid_at, items_at, items_len, line_at, list_at, name_among_at, name_at, number_at, object_at, plain_list_at, version_at}
use Rattle.release_catalogue.specs.Requirements.{requirement_at}

-- The words of urgency.
abbrev pub urgency_words : List (List ℕ)
urgency_words = codes "unknown" ∷ codes "low" ∷ codes "medium" ∷ codes "high" ∷ codes "critical" ∷ []

-- A release.
unfoldable pub release_at : Spot → Data → Result Release Fault
release_at spot d = do
  here ← object_at spot d
  version ← the spot words.Version version_at d
  urgency ← optional spot words.Urgency (name_among_at urgency_words) (codes "unknown") d
  digest ← the spot words.Sha256 digest_at d
  size ← the spot words.Size (number_at 0 4194304) d
  Ok (record { version = version; urgency = urgency; digest = digest; size = size })

-- The releases of a component, where so many were taken before: at most 20,000 in all.
abbrev pub releases_at : Level → ℕ → Spot → Spot → Data → Result (List Release) Fault
releases_at level taken base spot d = do
  ds ← items_at spot d
  fits ← refuse_if (nat_lt 20000 (taken + items_len ds)) spot TooMany
  each (λ _. release_at) (entry_spot base level) [] ds

-- What is kept of the custom values of a component. Their faults are told of the whole.
unfoldable pub custom_at : Spot → Data → Result Custom Fault
custom_at spot d = do
  here ← object_at spot d
  format ← maybe_here spot words.VersionFormatKey name_at d
  protocol ← maybe_here spot words.UpdateProtocolKey name_at d
  Ok (record { format = format; protocol = protocol })

abbrev pub no_custom : Custom
no_custom = record { format = None; protocol = None }

-- A component, where so many releases were taken before. Its requirements and its releases have an index of
-- this level.
unfoldable pub component_at : Level → ℕ → Spot → Data → Result Component Fault
component_at level taken spot d = do
  here ← object_at spot d
  id ← the spot words.Id name_at d
  name ← optional spot words.Name line_at [] d
  provides ← the spot words.Provides (plain_list_at 64 guid_at) d
  requirements ← optional spot words.Requires (λ at. list_at 64 (λ _. requirement_at) at spot level) [] d
  custom ← optional spot words.Custom custom_at no_custom d
  releases ← the spot words.Releases (releases_at level taken spot) d
  Ok (record { id = id; name = name; provides = provides; requirements = requirements; format = custom.format; protocol = custom.protocol; releases = releases })

-- How many releases some components have.
abbrev pub releases_in : List Component → ℕ
releases_in components = sum_by (λ component. length component.releases) components

-- The section `components` of the document, and the place of its entries.
abbrev pub section_spot : Spot
section_spot = record { section = words.Document; index = 0 ∷ 0 ∷ 0 ∷ []; field = words.Components }

abbrev pub component_spot : Spot
component_spot = record { section = words.Components; index = 0 ∷ 0 ∷ 0 ∷ []; field = words.Entry }

-- The index behind one.
abbrev pub below : Level → Level
below Whole = Whole
below First = Second
below Second = Third
below Third = Third

-- The components of a list that have an index of this level, behind so many components and releases of the
-- document: at most 4,096 and 20,000 in all.
abbrev pub components_behind : Taken → Level → Spot → Spot → Data → Result (List Component) Fault
components_behind taken level spot base d = do
  ds ← items_at spot d
  fits ← refuse_if (nat_lt 4096 (taken.components + items_len ds)) spot TooMany
  each (λ earlier. component_at (below level) (taken.releases + releases_in earlier)) (entry_spot base level) [] ds

abbrev pub none_taken : Taken
none_taken = record { components = 0; releases = 0 }

-- The section, which is the first that has components.
abbrev pub components_at : Data → Result (List Component) Fault
components_at d = components_behind none_taken First section_spot component_spot d

-- A list of components is a catalogue within the limits, or the fault of a section with too many.
abbrev pub within_limits : List Component → Result (List Component) Fault
within_limits components =
    if nat_lt 4096 (length components) || nat_lt 20000 (releases_in components) then at_spot section_spot TooMany else Ok components
