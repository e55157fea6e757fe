-- What is out as the daemon resumes an entry, and what is given back.
use Rattle.std.specs.Prelude.{◌≡◌, Option, Some, None}
use Rattle.update_log.specs.declared.event.Event.{Event}
use Rattle.update_log.specs.Holding.{hold}
use Rattle.daemon_core.specs.declared.fetched.Fetched.{Fetched}
use Rattle.daemon_core.specs.declared.hold.Ticket.{Ticket}
use Rattle.daemon_core.specs.Fetches.{block_count}
use Rattle.daemon_core.specs.Holds.{back_of, held_by}
use Rattle.turn_lock.specs.Shown.{PassView}
use Rattle.shared_daemon.specs.declared.entry.Entry.{Entry}
use Rattle.shared_daemon.specs.Calls.{Adds, Took}
use Rattle.shared_daemon.specs.Closings.{IsFreePass}
use Rattle.shared_daemon.specs.Entries.{past_seen}
use Rattle.shared_daemon.specs.Names.{Name}

-- This hold of the pass's client is out, where there is one, and else nothing.
abbrev pub IsOut : Option (Ticket × Fetched) → PassView Entry → Type 0
IsOut None pass = IsFreePass pass
IsOut (Some held) pass = hold (past_seen pass.seen) pass.number ≡ Some (held_by held.0 (block_count held.1))

-- A turn of the pass gave a hold back.
pub record GaveUp (name : Name) (ticket : Ticket) (old new : PassView Entry) : Type 0 where
  pub same : new.number ≡ old.number
  pub turn : Took name (Adds old.number (Event.GiveBack old.number (back_of ticket.pending ticket.request))) old new

-- That hold was given back; where there was none, nothing happened.
abbrev pub WasGivenUp : Name → Option (Ticket × Fetched) → PassView Entry → PassView Entry → Type 0
WasGivenUp name None old new = new ≡ old
WasGivenUp name (Some held) old new = GaveUp name held.0 old new
