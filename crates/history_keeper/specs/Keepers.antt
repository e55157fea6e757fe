-- What the calls of a keeper do to the rows that it tells, and to its doubt.
use Rattle.std.specs.Prelude.{◌≡◌, ◌⊎◌, List, Option, Some, None, Result, Ok, Err}
use Rattle.history_keeper.specs.declared.row.Row.{Row}
use Rattle.history_keeper.specs.declared.change.Change.{Change}
use Rattle.history_keeper.specs.declared.refusal.KeeperRefusal.{KeeperRefusal}
use Rattle.history_keeper.specs.declared.refusal.KeeperRefusal.TheVariants.{Fault, NoMemory}
use Rattle.history_keeper.specs.Changes.{changed}

-- The rows with the doubtful change, where there is one.
abbrev pub with_doubt : Option Change → List Row → List Row
with_doubt None rows = rows
with_doubt (Some change) rows = changed change rows

-- The rows that a keeper tells after a call are those that it told before it.
abbrev pub StillTold : (List Row → Type 0) → (List Row → Type 0) → Type 0
StillTold old new = (all : List Row) → new all → old all

-- They are those that it told before it, with the change.
abbrev pub ToldWith : Change → (List Row → Type 0) → (List Row → Type 0) → Type 0
ToldWith change old new = (all : List Row) → new all → (before : List Row) × old before × (all ≡ changed change before)

-- They are those that it told before it, without or with the doubtful change.
abbrev pub ToldEither : Option Change → (List Row → Type 0) → (List Row → Type 0) → Type 0
ToldEither doubt old new = (all : List Row) → new all → (before : List Row) × old before × ((all ≡ before) ⊎ (all ≡ with_doubt doubt before))

-- A commit: `Ok` makes the change and leaves no doubt. A fault leaves the rows and makes the change
-- the doubt. Want of memory changes nothing.
abbrev pub Committed : {A : Type 0} → Change → Result A KeeperRefusal → (List Row → Type 0) → (List Row → Type 0) → Option Change → Type 0
Committed change (Ok _) old new doubt = ToldWith change old new × (doubt ≡ None)
Committed change (Err Fault) old new doubt = StillTold old new × (doubt ≡ Some change)
Committed change (Err NoMemory) old new doubt = StillTold old new × (doubt ≡ None)

-- A reopening: `Ok` leaves no doubt, and the rows without or with the doubtful change. All else
-- changes nothing.
abbrev pub Reopened : {A : Type 0} → Result A KeeperRefusal → (List Row → Type 0) → Option Change → (List Row → Type 0) → Option Change → Type 0
Reopened (Ok _) old doubt new left = ToldEither doubt old new × (left ≡ None)
Reopened (Err _) old doubt new left = StillTold old new × (left ≡ doubt)

-- Whatever a reopening made this keeper of, it is still made of it after a call.
abbrev pub StillSettled : {K : Type 0} → (K → K → Type 0) → K → K → Type 0
StillSettled {K} settled old new = (first : K) → settled first old → settled first new
