-- What the files of a history hold as they are opened.
use Rattle.std.specs.Prelude.{◌≡◌, ◌≢◌, ◌⊎◌, ℕ, List, [], length, slice_index, map}
use Rattle.sqlite.specs.Schema.{Schema}
use Rattle.sqlite.specs.Tree.{Trees}
use Rattle.sqlite.specs.Effect.{IsDatabase}
use Rattle.sqlite.specs.Files.{AreFoundIn}
use Rattle.sqlite_disk.specs.declared.start.Start as start
use Rattle.sqlite_wal.specs.Files.{image_at}
use Rattle.sqlite_wal.specs.Recovery.{Image}
use Rattle.history_keeper.specs.declared.row.Row.{Row}
use Rattle.history_sqlite.specs.Columns.{taken_over}
use Rattle.history_sqlite.specs.Tables.{Layout, history_schema, older_schema, no_schema, rows_tree, stored, older_stored, IsNumbered, schema_number, older_number, AreNumbered}

-- The file is one byte that isn't zero.
abbrev pub IsLoneByte : List ℕ → Type 0
IsLoneByte bytes = (length bytes ≡ 1) × (slice_index bytes 0 ≢ 0)

-- A database has the tables and the number, and the table of the rows has these.
pub record HasTable (schema : Schema) (trees : Trees) (rows : List Row) : Type 0 where
  pub layout : Layout
  pub schema_is : schema ≡ history_schema layout
  pub number : IsNumbered schema_number (trees 0)
  pub table : trees (rows_tree layout) ≡ map stored rows
  pub entries : AreNumbered 1 rows

-- It is one of schema 1, and these are its rows as they are taken over.
pub record HasOlderTable (schema : Schema) (trees : Trees) (rows : List Row) : Type 0 where
  pub older : List Row
  pub schema_is : schema ≡ older_schema
  pub number : IsNumbered older_number (trees 0)
  pub table : trees 1 ≡ map older_stored older
  pub entries : AreNumbered 1 older
  pub rows_are : rows ≡ map taken_over older

-- It has the rows of a history: in the table of this schema, or in that of schema 1; or it has no table, and there
-- are none.
abbrev pub HasHistory : Schema → Trees → List Row → Type 0
HasHistory schema trees rows = HasTable schema trees rows ⊎ (HasOlderTable schema trees rows ⊎ ((schema ≡ no_schema) × (rows ≡ [])))

-- The files held these rows as they were opened: whichever database is found in them has them.
abbrev pub FilesHold : Image → List Row → Type 0
FilesHold image rows = (schema : Schema) (trees : Trees) → AreFoundIn image trees → IsDatabase (record { schema = schema; trees = trees }) → HasHistory schema trees rows

-- The same of the files that a start stands for.
abbrev pub StartHolds : {S : Type 0} → start.Ghosts S → List Row → Type 0
StartHolds first rows = FilesHold (image_at first) rows
