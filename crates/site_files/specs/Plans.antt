-- The planned faults of a board. All that is wrong with them is told of their list.
use Rattle.std.specs.Prelude.{ℕ, nat_le, List, [], ◌∷◌, codes, find, Result, Ok}
use Rattle.std.specs.Str.{bytes_eq}
use Rattle.emulated_boards.specs.declared.fault.BoardFault.{BoardFault}
use Rattle.emulated_boards.specs.declared.fault.BoardFault.TheVariants as faults
use Rattle.emulated_boards.specs.declared.fault.PlannedFault.{PlannedFault}
use Rattle.serde_json.specs.Data.{Data}
use Rattle.release_catalogue.specs.declared.word.Word.TheVariants as words
use Rattle.release_catalogue.specs.declared.reason.Reason.TheVariants.{WrongKind, Repeated}
use Rattle.release_catalogue.specs.declared.spot.Level.TheVariants.{Whole}
use Rattle.release_catalogue.specs.declared.spot.Spot.{Spot}
use Rattle.release_catalogue.specs.declared.spot.Fault.{Fault}
use Rattle.release_catalogue.specs.Reading.{◌>>=◌, or_fault, refuse_if}
use Rattle.release_catalogue.specs.Kinds.{list_at, number_at, object_at, text_at}
use Rattle.site_scripts.specs.Places.{the_here}

-- The words of the faults.
abbrev pub fault_word : BoardFault → List ℕ
fault_word faults.Failed = codes "failed"
fault_word faults.Torn = codes "torn"
fault_word faults.Gone = codes "gone"
fault_word faults.Stranger = codes "stranger"

abbrev pub all_faults : List BoardFault
all_faults = faults.Failed ∷ faults.Torn ∷ faults.Gone ∷ faults.Stranger ∷ []

-- A fault, by its word.
abbrev pub board_fault_at : Spot → Data → Result BoardFault Fault
board_fault_at spot d = do
  text ← text_at spot d
  or_fault spot WrongKind (find (λ fault. bytes_eq (fault_word fault) text) all_faults)

-- The number of the last call, where this one came before some planned faults.
abbrev pub latest : ℕ → List PlannedFault → ℕ
latest call [] = call
latest call (next ∷ more) = latest next.call more

-- The number of the last call of some planned faults. Calls are counted from 1.
abbrev pub last_call : List PlannedFault → ℕ
last_call planned = latest 0 planned

-- A planned fault, whose call comes behind those before.
unfoldable pub planned_at : ℕ → Spot → Data → Result PlannedFault Fault
planned_at last spot d = do
  here ← object_at spot d
  call ← the_here spot words.Call (number_at 1 4294967295) d
  rises ← refuse_if (nat_le call last) spot Repeated
  fault ← the_here spot words.Fault board_fault_at d
  Ok (record { call = call; fault = fault })

-- A plan of up to 64 faults.
abbrev pub plan_at : Spot → Data → Result (List PlannedFault) Fault
plan_at spot d = list_at 64 (λ earlier. planned_at (last_call earlier)) spot spot Whole d
