-- Rows that are numbered.
use Rattle.std.specs.Prelude.{◌≡◌, ℕ, ◌+◌, List, Some, slice_get}
use Rattle.history_keeper.specs.declared.row.Row.{Row}

-- The entries are 1, 2, 3 and so on.
abbrev pub IsNumbered : List Row → Type 0
IsNumbered rows = (at : ℕ) (r : Row) → slice_get rows at ≡ Some r → r.entry ≡ at + 1
