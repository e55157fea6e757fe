-- Rows, by a log of a daemon of this name.
use Rattle.std.specs.Prelude.{ℕ, List, IsSome}
use Rattle.update_log.specs.Known.{row_of}
use Rattle.shared_daemon.specs.declared.entry.Entry.{Entry}
use Rattle.shared_daemon.specs.Names.{Name}
use Rattle.daemon_tasks.specs.Waits.{WaitsIn, rows_seen}

-- The entry has a row.
abbrev pub HasRow : Name → ℕ → List Entry → Type 0
HasRow name entry seen = IsSome (row_of (rows_seen name seen) entry)

-- The entry has a row, whose install was put off.
abbrev pub IsPutOff : Name → ℕ → List Entry → Type 0
IsPutOff name entry seen = WaitsIn (rows_seen name seen) entry
