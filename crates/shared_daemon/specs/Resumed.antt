-- The resumption of a row that was put off, by the log that the daemon saw, and by the one that it left.
use Rattle.std.specs.Prelude.{◌≡◌, ℕ, List, Option, Some, None, Result, Ok, Err}
use Rattle.history_keeper.specs.declared.row.Row.{Row}
use Rattle.history_keeper.specs.declared.row.RowState.{RowState}
use Rattle.update_log.specs.Holding.{hold}
use Rattle.update_log.specs.Known.{row_of, rows}
use Rattle.update_log.specs.Legal.{IsFree, IsRefusedAsk, ResumeStored}
use Rattle.update_log.specs.Pasts.{last_of}
use Rattle.update_log.specs.declared.answer.ResumeAnswer.{ResumeAnswer}
use Rattle.update_log.specs.declared.event.Event.{Event}
use Rattle.update_log.specs.declared.event.Stored.{Stored}
use Rattle.update_log.specs.declared.refusal.FetchNote.{FetchNote}
use Rattle.update_log.specs.declared.refusal.Refusal.{Refusal}
use Rattle.daemon_core.specs.declared.claimed.Claimed.{Claimed}
use Rattle.daemon_core.specs.declared.fetched.Fetched.{Fetched}
use Rattle.daemon_core.specs.declared.hold.Ticket.{Ticket}
use Rattle.daemon_core.specs.declared.resumed.ResumeStop.{ResumeStop}
use Rattle.daemon_core.specs.declared.stop.Stop.{Stop}
use Rattle.daemon_core.specs.Fetches.{IsFetchOf, block_count}
use Rattle.daemon_core.specs.Holds.{held_by}
use Rattle.shared_daemon.specs.declared.entry.Entry.{Entry}
use Rattle.shared_daemon.specs.Calls.{AddsNone, AddsOn, FoundOff}
use Rattle.shared_daemon.specs.Entries.{past_seen}
use Rattle.shared_daemon.specs.Names.{Name}
use Rattle.shared_daemon.specs.Taking.{TookEntry}

-- The ticket is of the daemon's open hold, which is of so many blocks, and which this row made; and a
-- whole payload is that of its release.
pub record HasHold (name : Name) (entry : ℕ) (ticket : Ticket) (fetched : Fetched) (seen : List Entry) : Type 0 where
  pub held_is : hold (past_seen seen) 0 ≡ Some (held_by ticket (block_count fetched))
  pub pending_is : ticket.pending ≡ Some entry
  pub whole : IsFetchOf name.basis.facts ticket.release fetched

-- The daemon has nothing out, and its last event in this boot is the ask for this row, which was refused.
pub record HasRefusal (entry : ℕ) (seen : List Entry) : Type 0 where
  pub refusal : Refusal
  pub event : Event
  pub free : IsFree (past_seen seen) 0
  pub last : last_of 0 (past_seen seen) ≡ Some event
  pub refused : IsRefusedAsk entry (ResumeAnswer.Refused refusal) event

abbrev pub HasEither : Name → ℕ → Option (Ticket × Fetched) → List Entry → Type 0
HasEither name entry (Some held) seen = HasHold name entry held.0 held.1 seen
HasEither name entry None seen = HasRefusal entry seen

-- The row is put off, and its hold comes in, or its ask was refused.
pub record MayResumeRow (name : Name) (entry : ℕ) (held : Option (Ticket × Fetched)) (seen : List Entry) : Type 0 where
  pub row : Row
  pub row_is : row_of (rows name.basis (past_seen seen)) entry ≡ Some row
  pub pending : row.state ≡ RowState.Pending
  pub has : HasEither name entry held seen

-- The turn was stopped.
abbrev pub StoppedIn : Stop → List Entry → List Entry → Type 0
StoppedIn Stop.Off met log = FoundOff 0 met log
StoppedIn Stop.NoMemory met log = AddsNone met log

-- A resumption is answered that its row is begun, or why it was refused; it never is by another entry of
-- its tag.
abbrev pub ResumedIn : ℕ → Option FetchNote → Result Claimed ResumeStop → List Entry → List Entry → Type 0
ResumedIn entry fetched (Ok (Claimed.Taken taken)) met log = AddsOn 0 (Event.Resume 0 entry fetched ResumeAnswer.Begun Stored.Yes) met log
ResumedIn entry fetched (Ok (Claimed.Kept kept state)) met log = ⊥
ResumedIn entry fetched (Ok (Claimed.Refused refusal)) met log =
    (stored : Stored) × ResumeStored (ResumeAnswer.Refused refusal) stored × AddsOn 0 (Event.Resume 0 entry fetched (ResumeAnswer.Refused refusal) stored) met log
ResumedIn entry fetched (Err stopped) met log = StoppedIn stopped.stop met log

-- An entry that was taken is this one, live, with the payload that came in. A resumption that was stopped
-- hands back what came in.
abbrev pub ResumeGaveIn : Name → ℕ → Option (Ticket × Fetched) → Result Claimed ResumeStop → List Entry → Type 0
ResumeGaveIn name entry held (Ok (Claimed.Taken taken)) log =
    (taken.entry ≡ entry) × ((ticket : Ticket) × (held ≡ Some (ticket, Fetched.Whole taken.payload)))
    × TookEntry name 0 taken log
ResumeGaveIn name entry held (Ok (Claimed.Kept kept state)) log = ⊥
ResumeGaveIn name entry held (Ok (Claimed.Refused refusal)) log = Unit {0}
ResumeGaveIn name entry held (Err stopped) log = stopped.held ≡ held
