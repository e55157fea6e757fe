-- What a change makes of the rows.
use Rattle.std.specs.Prelude.{◌≡◌, ◌≢◌, ◌==◌, if◌then◌else◌, ℕ, ◌+◌, ◌-◌, ◌^◌, ◌≤◌, List, [], ◌∷◌, ◌++◌, length, map, All, Any}
use Rattle.history_keeper.specs.declared.row.Row.{Row}
use Rattle.history_keeper.specs.declared.row.RowState.{RowState}
use Rattle.history_keeper.specs.declared.change.Change.{Change}
use Rattle.history_keeper.specs.declared.change.Change.TheVariants.{Add, Advance}

-- The row after another row's or its own entry got a state.
abbrev pub with_state : ℕ → RowState → ℕ → ℕ → Row → Row
with_state entry state reason time row =
    if row.entry == entry then record row { state = state; reason = reason; time_changed = time } else row

-- The rows after the change: one more at the end, or another state of the row with that entry.
abbrev pub changed : Change → List Row → List Row
changed (Add row) rows = rows ++ row ∷ []
changed (Advance entry state reason time) rows = map (with_state entry state reason time) rows

-- An added row has the next entry and a new tag, and a row that advances is there.
abbrev pub Suits : Change → List Row → Type 0
Suits (Add row) rows = (row.entry ≡ length rows + 1) × All (λ other. other.tag ≢ row.tag) rows
Suits (Advance entry state reason time) rows = Any (λ row. row.entry ≡ entry) rows

-- Each time in the change fits a signed number of 64 bits.
abbrev pub IsTimely : Change → Type 0
IsTimely (Add row) = (row.time_added ≤ 2 ^ 63 - 1) × (row.time_changed ≤ 2 ^ 63 - 1)
IsTimely (Advance entry state reason time) = time ≤ 2 ^ 63 - 1

-- The change adds no row.
abbrev pub AddsNone : Change → Type 0
AddsNone (Add row) = ⊥
AddsNone (Advance entry state reason time) = Unit {0}
