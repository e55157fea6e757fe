-- What comes of merging.
use Rattle.std.specs.Prelude.{◌≡◌, ℕ, nat_lt, ◌||◌, if◌then◌else◌, List, length, Option, Some, None, Result, Ok, Err}
use Rattle.fw_facts.specs.declared.release.Component.{Component}
use Rattle.release_catalogue.specs.Components.{releases_in}
use Rattle.remote_set.specs.declared.merging.Merged.{Merged}
use Rattle.remote_set.specs.declared.merging.MergeFault.{MergeFault}
use Rattle.remote_set.specs.declared.merging.MergeFault.TheVariants.{Duplicate, TooMany, NoMemory}
use Rattle.remote_set.specs.declared.remote.Remote.{Remote}
use Rattle.remote_set.specs.Merged.{first_repeated, kept, merged}

-- The merged catalogue, and how many releases of each remote stay.
pub record Whole : Type 0 where
  pub catalogue : List Component
  pub kept : List ℕ

-- Components are a catalogue within the limits, or else their numbers are told.
abbrev pub within : List Component → Result (List Component) MergeFault
within components =
    if nat_lt 4096 (length components) || nat_lt 20000 (releases_in components)
    then Err (TooMany (length components) (releases_in components)) else Ok components

abbrev pub with_kept : List ℕ → Result (List Component) MergeFault → Result Whole MergeFault
with_kept kept (Ok components) = Ok (record { catalogue = components; kept = kept })
with_kept kept (Err fault) = Err fault

-- A repeated name is the first fault, and the second that too much would be merged.
abbrev pub whole_of : Option (List ℕ) → List Remote → Result Whole MergeFault
whole_of (Some name) remotes = Err (Duplicate name)
whole_of None remotes = with_kept (kept remotes) (within (merged remotes))

abbrev pub AnswersFault : {A : Type 0} → MergeFault → Result A MergeFault → Type 0
AnswersFault NoMemory whole = Unit {0}
AnswersFault (Duplicate name) whole = whole ≡ Err (Duplicate name)
AnswersFault (TooMany components releases) whole = whole ≡ Err (TooMany components releases)

-- The answer is the catalogue of some components, unless memory ran out.
abbrev pub IsCatalogueOf : Result (List Component) MergeFault → List Component → Type 0
IsCatalogueOf (Ok catalogue) components = within components ≡ Ok catalogue
IsCatalogueOf (Err fault) components = AnswersFault fault (within components)

-- The answer is that, unless memory ran out.
abbrev pub Answers : Result Merged MergeFault → List Remote → Type 0
Answers (Ok done) remotes = whole_of (first_repeated remotes) remotes ≡ Ok (record { catalogue = done.catalogue; kept = done.kept.items })
Answers (Err fault) remotes = AnswersFault fault (whole_of (first_repeated remotes) remotes)
