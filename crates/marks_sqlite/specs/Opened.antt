-- What the files of a keeper of marks hold as they are opened.
use Rattle.std.specs.Prelude.{◌≡◌, ◌⊎◌, ℕ, List, []}
use Rattle.sqlite.specs.Schema.{Schema}
use Rattle.sqlite.specs.Tree.{Trees}
use Rattle.sqlite.specs.Effect.{IsDatabase}
use Rattle.sqlite.specs.Files.{AreFoundIn}
use Rattle.sqlite_disk.specs.declared.start.Start as start
use Rattle.sqlite_wal.specs.Files.{image_at}
use Rattle.sqlite_wal.specs.Recovery.{Image}
use Rattle.marks_sqlite.specs.Finding.{HasNone, HasTable}
use Rattle.marks_sqlite.specs.Tables.{marks_schema, no_schema, stored_from}

-- A database has the table alone, and these entries are marked in it, in the order of their places, which are 1, 2, 3
-- and so on.
pub record HasMarked (schema : Schema) (trees : Trees) (marks : List ℕ) : Type 0 where
  pub schema_is : schema ≡ marks_schema
  pub table : trees 0 ≡ stored_from 1 marks

-- It has these marks: in the table; or it has no table, and there are none.
abbrev pub HasMarks : Schema → Trees → List ℕ → Type 0
HasMarks schema trees marks = HasMarked schema trees marks ⊎ ((schema ≡ no_schema) × (marks ≡ []))

-- The files held these marks as they were opened: whichever database is found in them has them.
abbrev pub FilesHold : Image → List ℕ → Type 0
FilesHold image marks = (schema : Schema) (trees : Trees) → AreFoundIn image trees → IsDatabase (record { schema = schema; trees = trees }) → HasMarks schema trees marks

-- The same of the files that a start stands for.
abbrev pub StartHolds : {S : Type 0} → start.Ghosts S → List ℕ → Type 0
StartHolds first marks = FilesHold (image_at first) marks

-- A database is found in the files that has no table of marks, or the one that this crate makes.
pub record IsAdoptable (image : Image) : Type 0 where
  pub schema : Schema
  pub trees : Trees
  pub found : AreFoundIn image trees
  pub database : IsDatabase (record { schema = schema; trees = trees })
  pub fits : HasNone schema ⊎ HasTable schema
