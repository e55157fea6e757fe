-- Reading a JSON value: what it says, or the first fault.
use Rattle.std.specs.Prelude.{◌≡◌, ℕ, List, [], ◌∷◌, ◌++◌, length, slice_set, Bool, ⊤, if◌then◌else◌, Option, Some, None, Result, Ok, Err}
use Rattle.serde_json.specs.Data.{Data, Items, no_items, item}
use Rattle.serde_json.specs.Find.{get}
use Rattle.release_catalogue.specs.Words.{word_text}
use Rattle.release_catalogue.specs.declared.word.Word.{Word}
use Rattle.release_catalogue.specs.declared.reason.Reason.{Reason}
use Rattle.release_catalogue.specs.declared.reason.Reason.TheVariants.{Missing}
use Rattle.release_catalogue.specs.declared.spot.Level.{Level}
use Rattle.release_catalogue.specs.declared.spot.Level.TheVariants.{Whole, First, Second, Third}
use Rattle.release_catalogue.specs.declared.spot.Spot.{Spot}
use Rattle.release_catalogue.specs.declared.spot.Fault.{Fault}
use Rattle.release_catalogue.specs.declared.spot.ReadStop.{ReadStop}
use Rattle.release_catalogue.specs.declared.spot.ReadStop.TheVariants.{At, NoMemory}

-- What comes next is read only where there was no fault.
infixl 10 ◌>>=◌
abbrev pub ◌>>=◌ : {A B : Type 0} → Result A Fault → (A → Result B Fault) → Result B Fault
(Ok x) >>= f = f x
(Err e) >>= f = Err e

-- Reading stopped at the fault, or for want of memory.
abbrev pub Fails : {A : Type 0} → ReadStop → Result A Fault → Type 0
Fails NoMemory reading = Unit {0}
Fails (At fault) reading = reading ≡ Err fault

-- A call answers what the reading says, or that memory ran out.
abbrev pub Gives : {X A : Type 0} → (X → A) → Result X ReadStop → Result A Fault → Type 0
Gives seen (Ok x) reading = reading ≡ Ok (seen x)
Gives seen (Err stop) reading = Fails stop reading

-- A fault at a place.
abbrev pub at_spot : {A : Type 0} → Spot → Reason → Result A Fault
at_spot spot reason = Err (record { spot = spot; reason = reason })

-- A field of the entry at a place.
abbrev pub field_of : Spot → Word → Spot
field_of spot word = record spot { field = word }

-- The place of an entry of a list: its own, where it has an index, or else the list's.
abbrev pub entry_spot : Spot → Level → ℕ → Spot
entry_spot spot Whole i = spot
entry_spot spot First i = record spot { index = slice_set spot.index 0 i }
entry_spot spot Second i = record spot { index = slice_set spot.index 1 i }
entry_spot spot Third i = record spot { index = slice_set spot.index 2 i }

-- What an option holds, or else a fault.
abbrev pub or_fault : {A : Type 0} → Spot → Reason → Option A → Result A Fault
or_fault spot reason None = at_spot spot reason
or_fault spot reason (Some x) = Ok x

-- A fault where the test passes.
abbrev pub refuse_if : Bool → Spot → Reason → Result ⊤ Fault
refuse_if test spot reason = if test then at_spot spot reason else Ok tt

-- A member that must be there.
abbrev pub needed : Spot → Word → Data → Result Data Fault
needed spot word d = or_fault (field_of spot word) Missing (get (word_text word) d)

-- What is read of a member, or what stands for it where it is missing.
abbrev pub or_default : {A : Type 0} → A → (Data → Result A Fault) → Option Data → Result A Fault
or_default a read None = Ok a
or_default a read (Some d) = read d

-- The field of the entry at a place, which must be there.
abbrev pub the : {A : Type 0} → Spot → Word → (Spot → Data → Result A Fault) → Data → Result A Fault
the spot word kind d = needed spot word d >>= kind (field_of spot word)

-- The field, or what stands for it where it is missing.
abbrev pub optional : {A : Type 0} → Spot → Word → (Spot → Data → Result A Fault) → A → Data → Result A Fault
optional spot word kind a d = or_default a (kind (field_of spot word)) (get (word_text word) d)

-- A member whose place is the one of the object that it stands in, where it is there.
abbrev pub maybe_here : {A : Type 0} → Spot → Word → (Spot → Data → Result A Fault) → Data → Result (Option A) Fault
maybe_here spot word kind d = or_default None (λ x. kind spot x >>= λ a. Ok (Some a)) (get (word_text word) d)

-- The field, where it is there.
abbrev pub maybe : {A : Type 0} → Spot → Word → (Spot → Data → Result A Fault) → Data → Result (Option A) Fault
maybe spot word kind d = or_default None (λ x. kind (field_of spot word) x >>= λ a. Ok (Some a)) (get (word_text word) d)

-- The entries of a list behind those that were read before.
abbrev pub each : {A : Type 0} → (List A → Spot → Data → Result A Fault) → (ℕ → Spot) → List A → Items → Result (List A) Fault
each read place earlier no_items = Ok earlier
each read place earlier (item d ds) = do
  x ← read earlier (place (length earlier)) d
  each read place (earlier ++ x ∷ []) ds
