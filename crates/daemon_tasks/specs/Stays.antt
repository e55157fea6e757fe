-- The rows of a log, and which of them a judgement leaves alone.
use Rattle.std.specs.Prelude.{◌≡◌, ℕ, false, ◌==◌, List}
use Rattle.std.specs.List.{list_any}
use Rattle.history_keeper.specs.declared.row.Row.{Row}
use Rattle.update_log.specs.Known.{row_of, rows}
use Rattle.daemon_core.specs.Housed.{basis_in, HouseLogView, past_in}

-- The rows, as the log says them.
abbrev pub rows_at : HouseLogView → List Row
rows_at a = rows (basis_in a) (past_in a)

-- The row of every entry stays that isn't one of these.
abbrev pub RowsStay : List ℕ → HouseLogView → HouseLogView → Type 0
RowsStay entries old new =
    (other : ℕ) → list_any (λ e. e == other) entries ≡ false → row_of (rows_at new) other ≡ row_of (rows_at old) other
