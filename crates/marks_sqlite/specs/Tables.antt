-- The table of marks, and what the database holds where it has marks.
use Rattle.std.specs.Prelude.{◌≡◌, ◌⊎◌, ℕ, ◌+◌, pos, true, false, List, [], ◌∷◌, ◌++◌, map, codes, Some, None, IsTrue}
use Rattle.sqlite.specs.declared.types.Value.{Value}
use Rattle.sqlite.specs.declared.types.Value.TheVariants.{Null, Int}
use Rattle.sqlite.specs.Kind.TheVariants.{Integer}
use Rattle.sqlite.specs.Table.{Table}
use Rattle.sqlite.specs.Schema.{Schema}
use Rattle.sqlite.specs.Change.{created}
use Rattle.sqlite.specs.Listing.{plain}
use Rattle.sqlite.specs.Tree.{Trees}
use Rattle.sqlite.specs.State.{State}
use Rattle.sqlite_value.specs.Keys.{plain as plain_order}

abbrev pub create_text : List ℕ
create_text = codes "CREATE TABLE reported (place INTEGER PRIMARY KEY, entry INTEGER NOT NULL UNIQUE) STRICT"

-- The table of the marks: each has its place, and no entry is marked twice.
abbrev pub reported_table : Table
reported_table = record {
  name = codes "reported";
  tree = 0;
  columns = plain (codes "place") Integer ∷ record (plain (codes "entry") Integer) { not_null = true } ∷ [];
  key = Some 0;
  primary = 0 ∷ [];
  uniques = (2 ∷ []) ∷ [];
  orders = plain_order ∷ [];
  checks = [];
  references = [];
  computed = [];
  stamps = record { places = []; terms = []; formats = [] };
  is_counted = false;
}

abbrev pub no_schema : Schema
no_schema = record { tables = []; indexes = []; views = [] }

-- The schema of a database that has this table alone.
abbrev pub marks_schema : Schema
marks_schema = created no_schema reported_table

-- A mark as it is stored: its rowid is its place, and its key is kept there alone.
abbrev pub stored : ℕ → ℕ → List Value
stored place entry = Int (pos place) ∷ Null ∷ Int (pos entry) ∷ []

-- Marks as they are stored, one behind the other from this place on.
abbrev pub stored_from : ℕ → List ℕ → List (List Value)
stored_from place [] = []
stored_from place (entry ∷ marks) = stored place entry ∷ stored_from (place + 1) marks

-- The database has the table, in no transaction, and these entries are marked, in the order of their places, which are
-- 1, 2, 3 and so on.
pub record HoldsMarks (s : State) (marks : List ℕ) : Type 0 where
  pub is_open : IsTrue s.is_open
  pub schema : s.now.schema ≡ marks_schema
  pub settled : s.committed ≡ s.now
  pub autocommit : s.in_transaction ≡ false
  pub unlimited : s.step_limit ≡ None
  pub table : s.now.trees 0 ≡ stored_from 1 marks

-- The database has no table, and is in no transaction.
pub record IsBlank (s : State) : Type 0 where
  pub is_open : IsTrue s.is_open
  pub schema : s.now.schema ≡ no_schema
  pub autocommit : s.in_transaction ≡ false
  pub unlimited : s.step_limit ≡ None

-- The database has marks, or no table.
abbrev pub HasAny : State → Type 0
HasAny s = ((marks : List ℕ) × HoldsMarks s marks) ⊎ IsBlank s

-- What a crash may leave of a database without tables in which the table is made: it, without a mark.
abbrev pub MakesTable : State → Trees → Type 0
MakesTable old trees = IsBlank old → trees 0 ≡ []

-- A statement that marked this entry.
abbrev pub Adds : State → State → ℕ → Type 0
Adds old new entry = (marks : List ℕ) → HoldsMarks old marks → HoldsMarks new (marks ++ entry ∷ [])

-- A statement that left the marks.
abbrev pub Keeps : State → State → Type 0
Keeps old new = (marks : List ℕ) → HoldsMarks old marks → HoldsMarks new marks

-- What the select shows of a mark.
abbrev pub shown_of : ℕ → List Value
shown_of entry = Int (pos entry) ∷ []

-- A statement that gave these columns of the marks, and left them.
abbrev pub Gives : State → State → List (List Value) → Type 0
Gives old new shown = (marks : List ℕ) → HoldsMarks old marks → (shown ≡ map shown_of marks) × HoldsMarks new marks

-- A statement that gave the marks, and left them.
abbrev pub Loads : State → State → List ℕ → Type 0
Loads old new loaded = (marks : List ℕ) → HoldsMarks old marks → (loaded ≡ marks) × HoldsMarks new marks

-- A question left the database as it was: with these marks, or with no table.
abbrev pub LeavesTable : State → State → Type 0
LeavesTable old new = Keeps old new × (IsBlank old → IsBlank new)

-- An opening left the marks, and made the table where there was none.
abbrev pub Opens : State → State → Type 0
Opens old new = Keeps old new × (IsBlank old → HoldsMarks new [])
