-- The tables, and what the database holds where they have rows.
use Rattle.std.specs.Prelude.{◌≡◌, ◌⊎◌, ℕ, ℤ, ◌+◌, pos, true, false, List, [], ◌∷◌, ◌++◌, map, length, codes, Some, None, IsTrue}
use Rattle.sqlite.specs.declared.types.Value.{Value}
use Rattle.sqlite.specs.declared.types.Value.TheVariants.{Null, Int, Text, Blob}
use Rattle.sqlite.specs.Kind.TheVariants.{Integer, Text as Words, Blob as Bytes}
use Rattle.sqlite.specs.Table.{Table}
use Rattle.sqlite.specs.Schema.{Schema}
use Rattle.sqlite.specs.Change.{created}
use Rattle.sqlite.specs.Listing.{plain}
use Rattle.sqlite.specs.Tree.{Trees}
use Rattle.sqlite.specs.State.{State}
use Rattle.sqlite.specs.Values.{or_null}
use Rattle.sqlite_value.specs.Keys.{plain as plain_order}
use Rattle.history_keeper.specs.declared.row.Row.{Row}
use Rattle.history_keeper.specs.declared.row.RowState.{RowState}
use Rattle.history_keeper.specs.Changes.{with_state, changed, Suits}
use Rattle.history_keeper.specs.declared.change.Change.{Change}
use Rattle.history_sqlite.specs.Columns.{state_number, columns_of, older_columns_of, taken_over}

abbrev pub create_schema_text : List ℕ
create_schema_text = codes "CREATE TABLE schema (number INTEGER NOT NULL) STRICT"

abbrev pub create_history_text : List ℕ
create_history_text = codes "CREATE TABLE history2 (entry INTEGER PRIMARY KEY, tag TEXT NOT NULL UNIQUE, client INTEGER NOT NULL, device BLOB NOT NULL, component TEXT NOT NULL, version_old TEXT NOT NULL, version_new TEXT NOT NULL, digest BLOB NOT NULL, flags INTEGER NOT NULL, state INTEGER NOT NULL, reason INTEGER NOT NULL, time_added INTEGER NOT NULL, time_changed INTEGER NOT NULL, duration INTEGER NOT NULL, protocol TEXT, retry_of INTEGER) STRICT"

-- The table of the schema's number.
abbrev pub schema_table : Table
schema_table = record {
  name = codes "schema";
  tree = 0;
  columns = record (plain (codes "number") Integer) { not_null = true } ∷ [];
  key = None;
  primary = [];
  uniques = [];
  orders = [];
  checks = [];
  references = [];
  computed = [];
  stamps = record { places = []; terms = []; formats = [] };
  is_counted = false;
}

-- The table of the rows in schema 1.
abbrev pub older_table : Table
older_table = record {
  name = codes "history";
  tree = 0;
  columns = plain (codes "entry") Integer
      ∷ record (plain (codes "tag") Words) { not_null = true }
      ∷ record (plain (codes "client") Integer) { not_null = true }
      ∷ record (plain (codes "device") Bytes) { not_null = true }
      ∷ record (plain (codes "component") Words) { not_null = true }
      ∷ record (plain (codes "version_old") Words) { not_null = true }
      ∷ record (plain (codes "version_new") Words) { not_null = true }
      ∷ record (plain (codes "digest") Bytes) { not_null = true }
      ∷ record (plain (codes "flags") Integer) { not_null = true }
      ∷ record (plain (codes "state") Integer) { not_null = true }
      ∷ record (plain (codes "reason") Integer) { not_null = true }
      ∷ record (plain (codes "time_added") Integer) { not_null = true }
      ∷ record (plain (codes "time_changed") Integer) { not_null = true } ∷ [];
  key = Some 0;
  primary = 0 ∷ [];
  uniques = (2 ∷ []) ∷ [];
  orders = plain_order ∷ [];
  checks = [];
  references = [];
  computed = [];
  stamps = record { places = []; terms = []; formats = [] };
  is_counted = false;
}

-- The table of the rows: it has three columns more.
abbrev pub history_table : Table
history_table = record older_table {
  name = codes "history2";
  columns = older_table.columns
      ++ record (plain (codes "duration") Integer) { not_null = true }
      ∷ plain (codes "protocol") Words
      ∷ plain (codes "retry_of") Integer ∷ [];
}

abbrev pub no_schema : Schema
no_schema = record { tables = []; indexes = []; views = [] }

-- The schema of a database that has the number and the rows of schema 1 alone.
abbrev pub older_schema : Schema
older_schema = created (created no_schema schema_table) older_table

-- A database that was made anew has the tables of the number and of the rows alone. One whose older rows were taken over still has their
-- table between these two.
pub data Layout : Type 0 where
  Anew : Layout
  TakenOver : Layout

abbrev pub history_schema : Layout → Schema
history_schema Anew = created (created no_schema schema_table) history_table
history_schema TakenOver = created older_schema history_table

-- The tree in which the table of the rows stands.
abbrev pub rows_tree : Layout → ℕ
rows_tree Anew = 1
rows_tree TakenOver = 3

-- A row as it is stored in schema 1: its rowid is its entry, and its key is kept there alone.
abbrev pub older_stored : Row → List Value
older_stored row =
    Int (pos row.entry) ∷ Null ∷ Text row.tag ∷ Int (pos row.client) ∷ Blob row.device ∷ Text row.component ∷ Text row.version_old ∷ Text row.version_new
    ∷ Blob row.digest ∷ Int (pos row.flags) ∷ Int (pos (state_number row.state)) ∷ Int (pos row.reason) ∷ Int (pos row.time_added) ∷ Int (pos row.time_changed) ∷ []

-- A row as it is stored.
abbrev pub stored : Row → List Value
stored row = older_stored row ++ Int (pos row.duration) ∷ or_null Text row.protocol ∷ or_null (λ entry. Int (pos entry)) row.retry_of ∷ []

-- The table of the number has one row, and it is this number.
abbrev pub IsNumbered : ℕ → List (List Value) → Type 0
IsNumbered number table = (id : ℤ) × (table ≡ (Int id ∷ Int (pos number) ∷ []) ∷ [])

-- The number of the schema that is written and read.
abbrev pub schema_number : ℕ
schema_number = 2

-- The number of the schema that is taken over.
abbrev pub older_number : ℕ
older_number = 1

-- The entries are numbered from this one on.
abbrev pub AreNumbered : ℕ → List Row → Type 0
AreNumbered from [] = Unit {0}
AreNumbered from (row ∷ rows) = (row.entry ≡ from) × AreNumbered (from + 1) rows

-- The database has the tables and the number, in no transaction, and the table of the rows has these, whose entries are 1, 2, 3 and so on.
pub record HoldsRows (s : State) (rows : List Row) : Type 0 where
  pub layout : Layout
  pub is_open : IsTrue s.is_open
  pub schema : s.now.schema ≡ history_schema layout
  pub settled : s.committed ≡ s.now
  pub autocommit : s.in_transaction ≡ false
  pub unlimited : s.step_limit ≡ None
  pub number : IsNumbered schema_number (s.now.trees 0)
  pub table : s.now.trees (rows_tree layout) ≡ map stored rows
  pub entries : AreNumbered 1 rows

-- The database is one of schema 1, in no transaction, and its table has these rows, as far as such a table tells them.
pub record HoldsOlderRows (s : State) (rows : List Row) : Type 0 where
  pub is_open : IsTrue s.is_open
  pub schema : s.now.schema ≡ older_schema
  pub settled : s.committed ≡ s.now
  pub autocommit : s.in_transaction ≡ false
  pub unlimited : s.step_limit ≡ None
  pub number : IsNumbered older_number (s.now.trees 0)
  pub table : s.now.trees 1 ≡ map older_stored rows
  pub entries : AreNumbered 1 rows

-- The database has no table, and is in no transaction.
pub record IsBlank (s : State) : Type 0 where
  pub is_open : IsTrue s.is_open
  pub schema : s.now.schema ≡ no_schema
  pub autocommit : s.in_transaction ≡ false
  pub unlimited : s.step_limit ≡ None

-- The database has the rows of a history, in a table of this schema or of schema 1, or it has no table.
abbrev pub HasAny : State → Type 0
HasAny s = ((rows : List Row) × HoldsRows s rows) ⊎ (((older : List Row) × HoldsOlderRows s older) ⊎ IsBlank s)

-- What a crash may leave of a database without tables in which both are made: them, the number and no rows.
abbrev pub MakesBoth : State → Trees → Type 0
MakesBoth old trees = IsBlank old → IsNumbered schema_number (trees 0) × (trees (rows_tree Anew) ≡ [])

-- What a crash may leave of a database whose older rows are taken over: the number, and all of them in the new table.
abbrev pub TakesAll : State → Trees → Type 0
TakesAll old trees = (rows : List Row) → HoldsOlderRows old rows → IsNumbered schema_number (trees 0) × (trees (rows_tree TakenOver) ≡ map stored (map taken_over rows))

-- A statement that added this row, if it has the next entry.
abbrev pub Adds : State → State → Row → Type 0
Adds old new row = (rows : List Row) → HoldsRows old rows → row.entry ≡ length rows + 1 → HoldsRows new (rows ++ row ∷ [])

-- A statement that left the rows.
abbrev pub Keeps : State → State → Type 0
Keeps old new = (rows : List Row) → HoldsRows old rows → HoldsRows new rows

-- A statement that left the rows of schema 1.
abbrev pub KeepsOlder : State → State → Type 0
KeepsOlder old new = (rows : List Row) → HoldsOlderRows old rows → HoldsOlderRows new rows

-- A statement that gave these columns of the rows, and left them.
abbrev pub Gives : State → State → List (List Value) → Type 0
Gives old new shown = (rows : List Row) → HoldsRows old rows → (shown ≡ map columns_of rows) × HoldsRows new rows

-- A statement that gave the rows, and left them.
abbrev pub Loads : State → State → List Row → Type 0
Loads old new loaded = (rows : List Row) → HoldsRows old rows → (loaded ≡ rows) × HoldsRows new rows

-- A statement that gave these columns of the rows of schema 1, and left them.
abbrev pub GivesOlder : State → State → List (List Value) → Type 0
GivesOlder old new shown = (rows : List Row) → HoldsOlderRows old rows → (shown ≡ map older_columns_of rows) × HoldsOlderRows new rows

-- A statement that counted the rows of schema 1, and left them.
abbrev pub CountsOlder : State → State → ℕ → Type 0
CountsOlder old new count = (rows : List Row) → HoldsOlderRows old rows → (count ≡ length rows) × HoldsOlderRows new rows

-- A statement that gave the row with this entry another state.
abbrev pub Advances : State → State → ℕ → RowState → ℕ → ℕ → Type 0
Advances old new entry state reason time = (rows : List Row) → HoldsRows old rows → HoldsRows new (map (with_state entry state reason time) rows)

-- A statement that made this change, if it suits the rows.
abbrev pub Makes : State → State → Change → Type 0
Makes old new change = (rows : List Row) → HoldsRows old rows → Suits change rows → HoldsRows new (changed change rows)

-- The rows of both schemas were left.
abbrev pub KeepsAny : State → State → Type 0
KeepsAny old new = Keeps old new × KeepsOlder old new

-- The rows of schema 1 were taken over.
abbrev pub TakesOver : State → State → Type 0
TakesOver old new = (rows : List Row) → HoldsOlderRows old rows → HoldsRows new (map taken_over rows)

-- The database was left as it was: with these rows, or with no table.
abbrev pub LeavesTables : State → State → Type 0
LeavesTables old new = KeepsAny old new × (IsBlank old → IsBlank new)

-- An opening left the rows, took over those of schema 1, and made the tables where there was none.
abbrev pub Opens : State → State → Type 0
Opens old new = Keeps old new × (TakesOver old new × (IsBlank old → HoldsRows new []))
