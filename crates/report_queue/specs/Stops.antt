-- Why a call that sends reports stops, and what stands then.
use Rattle.std.specs.Prelude.{◌≡◌, ℕ, ◌<◌, List, [], ◌∷◌, ◌++◌, length, take, slice_index_or, Option, Some, None, option_map, Result, Ok, Err}
use Rattle.outer_traits.specs.Sinks.{Took, TookFront}
use Rattle.history_keeper.specs.declared.row.Row.{Row}
use Rattle.history_keeper.specs.declared.refusal.KeeperRefusal.{KeeperRefusal}
use Rattle.history_keeper.specs.declared.refusal.KeeperRefusal.TheVariants as refusals
use Rattle.report_queue.specs.declared.stop.SendStop.{SendStop}
use Rattle.report_queue.specs.declared.stop.SendStop.TheVariants.{SinkFault, KeeperFault, NoMemory}
use Rattle.report_queue.specs.Lines.{line}
use Rattle.report_queue.specs.Marking.{with_entry}
use Rattle.report_queue.specs.Sending.{entries_of, lines}

-- What a refusal of the keeper of marks means for the call.
abbrev pub stop_of : KeeperRefusal → SendStop
stop_of refusals.Fault = KeeperFault
stop_of refusals.NoMemory = NoMemory

-- What the keeper of marks and the output tell at a moment.
pub record Told : Type 0 where
  pub marks : Option (List ℕ)
  pub doubt : Option ℕ
  pub taken : Option (List ℕ)

-- The entries of these rows were marked and their lines written, and there is no doubt.
pub record HasSent (rows : List Row) (old new : Told) : Type 0 where
  pub marks : new.marks ≡ option_map (λ marks. marks ++ entries_of rows) old.marks
  pub doubt : new.doubt ≡ None
  pub taken : Took (lines rows) old.taken new.taken

-- What stands where the sending of a row stopped. A fault of the output comes behind the mark, and a front of the line
-- is written. A fault of the keeper leaves the mark in doubt, and nothing is written. Want of memory changes nothing.
abbrev pub StopsAt : Row → SendStop → Told → Told → Type 0
StopsAt row SinkFault old new = (new.marks ≡ option_map (with_entry row.entry) old.marks) × (new.doubt ≡ None) × TookFront (line row) old.taken new.taken
StopsAt row KeeperFault old new = (new.marks ≡ old.marks) × (new.doubt ≡ Some row.entry) × (new.taken ≡ old.taken)
StopsAt row NoMemory old new = (new.marks ≡ old.marks) × (new.doubt ≡ None) × (new.taken ≡ old.taken)

-- The rows before a place were sent, and the sending of the row there stopped.
pub record StopsIn (rows : List Row) (stop : SendStop) (old new : Told) : Type 0 where
  pub at : ℕ
  pub row : Row
  pub within : at < length rows
  pub is_there : row ≡ slice_index_or rows at row
  pub middle : Told
  pub before : HasSent (take at rows) old middle
  pub stops : StopsAt row stop middle new

abbrev pub SendsRow : {A : Type 0} → Row → Result A SendStop → Told → Told → Type 0
SendsRow row (Ok _) old new = HasSent (row ∷ []) old new
SendsRow row (Err stop) old new = StopsAt row stop old new

abbrev pub SendsEach : {A : Type 0} → List Row → Result A SendStop → Told → Told → Type 0
SendsEach rows (Ok _) old new = HasSent rows old new
SendsEach rows (Err stop) old new = StopsIn rows stop old new
