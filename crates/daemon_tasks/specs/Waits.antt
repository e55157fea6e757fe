-- Rows that wait for the daemon.
use Rattle.std.specs.Prelude.{◌≡◌, ℕ, false, ◌==◌, List, [], ◌∷◌, Some}
use Rattle.std.specs.List.{list_any}
use Rattle.history_keeper.specs.declared.row.Row.{Row}
use Rattle.history_keeper.specs.declared.row.RowState.{RowState}
use Rattle.update_log.specs.Known.{row_of, rows}
use Rattle.shared_daemon.specs.declared.entry.Entry.{Entry}
use Rattle.shared_daemon.specs.Entries.{past_seen}
use Rattle.shared_daemon.specs.Names.{Name}

-- The rows, as a log of a daemon of this name says them.
abbrev pub rows_seen : Name → List Entry → List Row
rows_seen name seen = rows name.basis (past_seen seen)

-- The entry has a row among these, and its install was put off.
pub record WaitsIn (all : List Row) (entry : ℕ) : Type 0 where
  pub row : Row
  pub row_is : row_of all entry ≡ Some row
  pub pending : row.state ≡ RowState.Pending

-- So has each of these.
abbrev pub AllWait : List Row → List ℕ → Type 0
AllWait all [] = Unit {0}
AllWait all (entry ∷ entries) = WaitsIn all entry × AllWait all entries

-- No entry stands there twice.
abbrev pub AreApart : List ℕ → Type 0
AreApart [] = Unit {0}
AreApart (entry ∷ entries) = (list_any (λ e. e == entry) entries ≡ false) × AreApart entries
