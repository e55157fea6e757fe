-- Which rows wait for a boot.
use Rattle.std.specs.Prelude.{ℕ, ◌<◌, Bool, true, false, List, AllPairs, map, filter}
use Rattle.history_keeper.specs.declared.row.Row.{Row}
use Rattle.history_keeper.specs.declared.row.RowState.{RowState}
use Rattle.history_keeper.specs.declared.row.RowState.TheVariants.{Pending, Success, Failed, NeedsReboot, Begun}

-- The row's install was put off to the next boot.
abbrev pub is_pending : RowState → Bool
is_pending Pending = true
is_pending Success = false
is_pending Failed = false
is_pending NeedsReboot = false
is_pending Begun = false

-- The row's write was begun, or its new firmware comes in at a boot: it is judged by what its device
-- shows then.
abbrev pub is_to_judge : RowState → Bool
is_to_judge Pending = false
is_to_judge Success = false
is_to_judge Failed = false
is_to_judge NeedsReboot = true
is_to_judge Begun = true

-- The entries of the rows whose state is such, in the order of the rows.
abbrev pub entries_where : (RowState → Bool) → List Row → List ℕ
entries_where fits rows = map (λ row. row.entry) (filter (λ row. fits row.state) rows)

-- Each number is below all that stand behind it.
abbrev pub Rising : List ℕ → Type 0
Rising numbers = AllPairs (λ a b. a < b) numbers
