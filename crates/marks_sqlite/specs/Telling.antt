-- What a keeper of marks over a database tells.
use Rattle.std.specs.Prelude.{◌≡◌, ℕ, Bool, true, false, List, Option, None, IsTrue}
use Rattle.sqlite_disk.specs.declared.start.Start as start
use Rattle.sqlite.specs.Store.{Ghosts}
use Rattle.sqlite.specs.Held.{state}
use Rattle.sqlite.specs.State.{State, HasCleanDisk}
use Rattle.history_keeper.specs.declared.plan.KeeperPlan.{KeeperPlan}
use Rattle.report_queue.specs.declared.memory_marks.DoubtfulMark.{DoubtfulMark}
use Rattle.report_queue.specs.Memories.{kept}
use Rattle.marks_sqlite.specs.Keeping.{Keeping}
use Rattle.marks_sqlite.specs.Opened.{StartHolds}
use Rattle.marks_sqlite.specs.Tables.{HoldsMarks}

-- The database of a keeper.
abbrev pub database : {D : Type 0} → Ghosts D → Keeping D → State
database store keeping = state store keeping.connection

-- A keeper over a database tells these marks: it was made so that it may, what is supposed of its store is so, the
-- disk returned what was written, and the table has them.
pub record TellsSo (tells : Bool) (supposed : Type 0) (s : State) (all : List ℕ) : Type 0 where
  pub may : tells ≡ true
  pub store_is : supposed
  pub clean : HasCleanDisk s
  pub holds : HoldsMarks s all

abbrev pub TellsMarks : {D : Type 0} → Ghosts D → Type 0 → Keeping D → List ℕ → Type 0
TellsMarks store supposed keeping all = TellsSo keeping.tells supposed (database store keeping) all

-- The files that a start stands for held marks, or no table.
abbrev pub HeldSome : {S : Type 0} → start.Ghosts S → Type 0
HeldSome first = (marks : List ℕ) × StartHolds first marks

-- A keeper over such files tells these marks.
abbrev pub TellsHeld : {S D : Type 0} → start.Ghosts S → Ghosts D → Keeping D → List ℕ → Type 0
TellsHeld first store keeping all = TellsMarks store (HeldSome first) keeping all

-- A reopening that made the doubtful mark where it is to be kept, and left the marks else.
abbrev pub Settles : State → State → Option DoubtfulMark → Type 0
Settles old new doubt = (marks : List ℕ) → HoldsMarks old marks → HoldsMarks new (kept doubt marks)

-- A keeper that may tell has marks in its table. So it is as long as what is supposed of its store is so, the disk
-- returns what was written, and the connection is open.
abbrev pub Knows : Bool → Type 0 → State → Type 0
Knows true supposed s = supposed → HasCleanDisk s → IsTrue s.is_open → (all : List ℕ) × HoldsMarks s all
Knows false supposed s = Unit {0}

-- A keeper before its first call, which may tell its marks or not.
pub record IsUnused {D : Type 0} (tells : Bool) (plan : List KeeperPlan) (keeping : Keeping D) : Type 0 where
  pub may_tell : keeping.tells ≡ tells
  pub no_doubt : keeping.doubt ≡ None
  pub plan_is : keeping.plan ≡ plan
  pub uncalled : keeping.calls ≡ 0
  pub faultless : keeping.faults ≡ 0
