-- What a database has of the table of marks, before anything is written.
use Rattle.std.specs.Prelude.{◌≡◌, codes, None, IsSomeAnd}
use Rattle.sqlite.specs.Schema.{Schema}
use Rattle.history_sqlite.specs.Finding.{table_with, IsMadeAs}
use Rattle.marks_sqlite.specs.declared.finding.Found.{Found}
use Rattle.marks_sqlite.specs.declared.finding.Found.TheVariants.{Empty, Ours, Other}
use Rattle.marks_sqlite.specs.Tables.{reported_table}

-- The table isn't there.
abbrev pub HasNone : Schema → Type 0
HasNone schema = table_with (codes "reported") schema.tables ≡ None

-- The table is there, made as this crate makes it.
abbrev pub HasTable : Schema → Type 0
HasTable schema = IsSomeAnd (table_with (codes "reported") schema.tables) (IsMadeAs reported_table)

abbrev pub IsFound : Schema → Found → Type 0
IsFound schema Empty = HasNone schema
IsFound schema Ours = HasTable schema
IsFound schema Other = (HasNone schema → ⊥) × (HasTable schema → ⊥)
