-- Passes that have nothing out.
use Rattle.update_log.specs.Legal.{IsFree}
use Rattle.turn_lock.specs.Shown.{PassView}
use Rattle.shared_daemon.specs.declared.entry.Entry.{Entry}
use Rattle.shared_daemon.specs.Entries.{past_seen}

-- In what the pass saw last, its client has no hold and no live entry.
abbrev pub IsFreePass : PassView Entry → Type 0
IsFreePass pass = IsFree (past_seen pass.seen) pass.number
