-- The transaction in which the rows of schema 1 are taken over.
use Rattle.std.specs.Prelude.{◌≡◌, ℕ, ◌+◌, List, [], map, take, length, IsTrue}
use Rattle.sqlite.specs.Tree.{Trees}
use Rattle.sqlite.specs.State.{State}
use Rattle.history_keeper.specs.declared.row.Row.{Row}
use Rattle.history_sqlite.specs.Columns.{taken_over}
use Rattle.history_sqlite.specs.Tables.{Layout, older_schema, history_schema, rows_tree, stored, older_stored, IsNumbered, schema_number, older_number, AreNumbered, HoldsRows, HoldsOlderRows}

-- So many rows are copied by one insert.
abbrev pub block : ℕ
block = 256

-- A database of schema 1, with these rows, within a transaction that has changed nothing yet.
pub record IsUntaken (s : State) (older : List Row) : Type 0 where
  pub inside : IsTrue s.in_transaction
  pub schema : s.now.schema ≡ older_schema
  pub number : IsNumbered older_number (s.now.trees 0)
  pub stays : s.now.trees 1 ≡ map older_stored older
  pub entries : AreNumbered 1 older

-- The older number and the older rows still stand, and the table of the rows has these of them, as they are taken over.
pub record HoldsCopies (s : State) (older copied : List Row) : Type 0 where
  pub inside : IsTrue s.in_transaction
  pub schema : s.now.schema ≡ history_schema Layout.TakenOver
  pub number : IsNumbered older_number (s.now.trees 0)
  pub stays : s.now.trees 1 ≡ map older_stored older
  pub table : s.now.trees (rows_tree Layout.TakenOver) ≡ map stored (map taken_over copied)
  pub entries : AreNumbered 1 older

-- A statement that copied the next block of rows, where so many were copied.
abbrev pub Copies : State → State → ℕ → Type 0
Copies old new from = (older : List Row) → HoldsCopies old older (take from older) → HoldsCopies new older (take (from + block) older)

-- Statements that copied all rows, where there are so many.
abbrev pub CopiesAll : State → State → ℕ → Type 0
CopiesAll old new count = (older : List Row) → HoldsCopies old older [] → length older ≡ count → HoldsCopies new older older

-- These rows are in the table of the rows, as they are taken over, and the number is this schema's.
pub record AreTaken (s : State) (older : List Row) : Type 0 where
  pub inside : IsTrue s.in_transaction
  pub schema : s.now.schema ≡ history_schema Layout.TakenOver
  pub number : IsNumbered schema_number (s.now.trees 0)
  pub table : s.now.trees (rows_tree Layout.TakenOver) ≡ map stored (map taken_over older)

-- The statements of the transaction that takes over so many rows.
abbrev pub CopiesOver : State → State → ℕ → Type 0
CopiesOver old new count = (older : List Row) → IsUntaken old older → length older ≡ count → AreTaken new older

-- That transaction: the rows stand in the table of the rows once it is committed.
abbrev pub WritesOver : State → State → ℕ → Type 0
WritesOver old new count = (older : List Row) → HoldsOlderRows old older → length older ≡ count → HoldsRows new (map taken_over older)

-- What a crash may leave of it.
abbrev pub MayWriteOver : State → ℕ → Trees → Type 0
MayWriteOver old count trees =
    (older : List Row) → HoldsOlderRows old older → length older ≡ count → IsNumbered schema_number (trees 0) × (trees (rows_tree Layout.TakenOver) ≡ map stored (map taken_over older))
