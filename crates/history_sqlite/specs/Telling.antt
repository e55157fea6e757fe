-- What a keeper over a database tells.
use Rattle.std.specs.Prelude.{◌≡◌, Bool, true, false, List, Option, Some, None, IsTrue}
use Rattle.sqlite_disk.specs.declared.start.Start as start
use Rattle.sqlite.specs.Store.{Ghosts}
use Rattle.sqlite.specs.Held.{state}
use Rattle.sqlite.specs.State.{State, HasCleanDisk}
use Rattle.history_keeper.specs.declared.row.Row.{Row}
use Rattle.history_keeper.specs.declared.plan.Doubt.{Doubt}
use Rattle.history_keeper.specs.declared.plan.KeeperPlan.{KeeperPlan}
use Rattle.history_keeper.specs.Changes.{Suits}
use Rattle.history_keeper.specs.Memories.{kept}
use Rattle.history_sqlite.specs.Opened.{StartHolds}
use Rattle.history_sqlite.specs.Tables.{HoldsRows}
use Rattle.history_sqlite.specs.Keeping.{Keeping}

-- The database of a keeper.
abbrev pub database : {D : Type 0} → Ghosts D → Keeping D → State
database store keeping = state store keeping.connection

-- A keeper over a database tells these rows: it was made so that it may, what is supposed of its store is so, the
-- disk returned what was written, and the table has them.
pub record TellsSo (tells : Bool) (supposed : Type 0) (s : State) (all : List Row) : Type 0 where
  pub may : tells ≡ true
  pub store_is : supposed
  pub clean : HasCleanDisk s
  pub holds : HoldsRows s all

abbrev pub TellsRows : {D : Type 0} → Ghosts D → Type 0 → Keeping D → List Row → Type 0
TellsRows store supposed keeping all = TellsSo keeping.tells supposed (database store keeping) all

-- The files that a start stands for held the rows of a history.
abbrev pub HeldSome : {S : Type 0} → start.Ghosts S → Type 0
HeldSome first = (rows : List Row) × StartHolds first rows

-- A keeper over such files tells these rows.
abbrev pub TellsHeld : {S D : Type 0} → start.Ghosts S → Ghosts D → Keeping D → List Row → Type 0
TellsHeld first store keeping all = TellsRows store (HeldSome first) keeping all

-- The doubtful change suits the rows, and its times fit the table.
abbrev pub SuitsDoubt : Option Doubt → List Row → Type 0
SuitsDoubt None rows = Unit {0}
SuitsDoubt (Some doubt) rows = Suits doubt.change rows

-- A reopening that made the doubtful change where it is to be kept, and left the rows else.
abbrev pub Settles : State → State → Option Doubt → Type 0
Settles old new doubt = (rows : List Row) → HoldsRows old rows → SuitsDoubt doubt rows → HoldsRows new (kept doubt rows)

-- A reopening made this database of the first, while the disk returns what was written and the connection is open:
-- nothing is left in doubt, and the doubtful change was settled.
pub record SettledSo (first s : State) (doubt left : Option Doubt) : Type 0 where
  pub no_doubt : left ≡ None
  pub settles : HasCleanDisk s → IsTrue s.is_open → Settles first s doubt

-- The keeper is what a reopening made of the first.
abbrev pub IsSettled : {D : Type 0} → Ghosts D → Keeping D → Keeping D → Type 0
IsSettled store first keeping = SettledSo (database store first) (database store keeping) first.doubt keeping.doubt

-- A keeper that may tell has rows in its table, which the doubtful change suits. So it is as long as what is
-- supposed of its store is so, the disk returns what was written, and the connection is open.
abbrev pub Knows : Bool → Type 0 → State → Option Doubt → Type 0
Knows true supposed s doubt = supposed → HasCleanDisk s → IsTrue s.is_open → (all : List Row) × HoldsRows s all × SuitsDoubt doubt all
Knows false supposed s doubt = Unit {0}

-- A keeper before its first call, which may tell its rows or not.
pub record IsUnused {D : Type 0} (tells : Bool) (plan : List KeeperPlan) (keeping : Keeping D) : Type 0 where
  pub may_tell : keeping.tells ≡ tells
  pub no_doubt : keeping.doubt ≡ None
  pub plan_is : keeping.plan ≡ plan
  pub uncalled : keeping.calls ≡ 0
  pub faultless : keeping.faults ≡ 0
