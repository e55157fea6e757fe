-- What the resumption of a row did that was put off.
use Rattle.std.specs.Prelude.{◌≡◌, ◌≤◌, ◌<◌, ℕ, ◌+◌, ◌==◌, Bool, true, false, if◌then◌else◌, is_some, Option, Some, None, Result, Ok, Err}
use Rattle.block_pool.specs.Views.{SealedBytes}
use Rattle.history_keeper.specs.declared.row.Row.{Row}
use Rattle.history_keeper.specs.declared.row.RowState.{RowState}
use Rattle.update_log.specs.Holding.{hold}
use Rattle.update_log.specs.Known.{row_of}
use Rattle.update_log.specs.Legal.{IsFree, IsRefusedAsk, ResumeFetched, ResumeStored}
use Rattle.update_log.specs.Pasts.{boots, is_keeper_fault, last_of, off}
use Rattle.update_log.specs.Verdicts.{verdict}
use Rattle.update_log.specs.declared.answer.AskAnswer.{AskAnswer}
use Rattle.update_log.specs.declared.answer.ResumeAnswer.{ResumeAnswer}
use Rattle.update_log.specs.declared.decision.Decision.{Decision}
use Rattle.update_log.specs.declared.decision.Stage.{Stage}
use Rattle.update_log.specs.declared.event.Event.{Event}
use Rattle.update_log.specs.declared.event.Stored.{Stored}
use Rattle.update_log.specs.declared.refusal.FetchNote.{FetchNote}
use Rattle.update_log.specs.declared.refusal.Refusal.{Refusal}
use Rattle.daemon_core.specs.declared.claimed.Claimed.{Claimed}
use Rattle.daemon_core.specs.declared.fetched.Fetched.{Fetched}
use Rattle.daemon_core.specs.declared.hold.Ticket.{Ticket}
use Rattle.daemon_core.specs.declared.resumed.ResumeStop.{ResumeStop}
use Rattle.daemon_core.specs.declared.stop.Stop.{Stop}
use Rattle.daemon_core.specs.HouseLog.{Appended, Runs, Unchanged}
use Rattle.daemon_core.specs.Claims.{DeviceHome, RoomierPlaces, TakenFrom}
use Rattle.daemon_core.specs.Fetches.{IsFetchOf, block_count, note_of}
use Rattle.daemon_core.specs.Holds.{held_by}
use Rattle.daemon_core.specs.Housed.{basis_in, HouseLogView, Housed, past_in}
use Rattle.daemon_core.specs.Owed.{owed}
use Rattle.daemon_core.specs.PutOff.{IsAccept}
use Rattle.daemon_core.specs.Turns.{WentOff}

-- What the log says of what came in: how its payload was fetched, where there was a hold.
abbrev pub note_in : Option (Ticket × Fetched) → Option FetchNote
note_in None = None
note_in (Some held) = Some (note_of held.1)

-- The blocks that came in.
abbrev pub blocks_in : Option (Ticket × Fetched) → ℕ
blocks_in None = 0
blocks_in (Some held) = block_count held.1

-- The entry's row is put off.
pub record IsPutOff (a : HouseLogView) (entry : ℕ) : Type 0 where
  pub row : Row
  pub row_is : row_of a.core.rows entry ≡ Some row
  pub pending : row.state ≡ RowState.Pending

-- The ticket is of the daemon's open hold, which is of so many blocks, and which this row made; and a
-- whole payload is that of its release.
pub record IsOpenHold (a : HouseLogView) (entry : ℕ) (ticket : Ticket) (fetched : Fetched) : Type 0 where
  pub held_is : hold (past_in a) 0 ≡ Some (held_by ticket (block_count fetched))
  pub pending_is : ticket.pending ≡ Some entry
  pub whole : IsFetchOf a.facts ticket.release fetched

-- The daemon has nothing out, and its last event in this boot is the ask for this row, which was refused.
pub record WasRefused (a : HouseLogView) (entry : ℕ) (refusal : Refusal) : Type 0 where
  pub free : IsFree (past_in a) 0
  pub event : Event
  pub last : last_of 0 (past_in a) ≡ Some event
  pub refused : IsRefusedAsk entry (ResumeAnswer.Refused refusal) event

-- Why the daemon was refused what it asked for, where the event is such an ask.
abbrev pub refused_by : Event → Option Refusal
refused_by (Event.Ask client request pending (AskAnswer.Refused refusal)) = if client == 0 then Some refusal else None
refused_by _ = None

abbrev pub is_refused : Event → Bool
is_refused event = is_some (refused_by event)

-- What comes in is the open hold of the row, or else the row's ask was refused.
abbrev pub ComesIn : HouseLogView → ℕ → Option (Ticket × Fetched) → Type 0
ComesIn a entry (Some held) = IsOpenHold a entry held.0 held.1
ComesIn a entry None = (refusal : Refusal) × WasRefused a entry refusal

-- The daemon's turn was stopped: it was answered off, or memory was wanting and nothing changed.
abbrev pub StoppedBy : Stop → HouseLogView → HouseLogView → Type 0
StoppedBy Stop.Off old new = WentOff 0 old new
StoppedBy Stop.NoMemory old new = (off (past_in old) ≡ false) × Unchanged old new

-- A resumption is answered that its row is begun, or why it was refused; it never is by another entry of
-- its tag. The begin was stored. A refusal was stored as the row's failure, or met a fault of the keeper;
-- where the begin met that, this is the refusal.
abbrev pub ResumeTurned : ℕ → Option FetchNote → Result Claimed ResumeStop → HouseLogView → HouseLogView → Type 0
ResumeTurned entry fetched (Ok (Claimed.Taken taken)) old new =
    Runs old × Appended 0 (Event.Resume 0 entry fetched ResumeAnswer.Begun Stored.Yes) old new
ResumeTurned entry fetched (Ok (Claimed.Kept kept state)) old new = ⊥
ResumeTurned entry fetched (Ok (Claimed.Refused refusal)) old new =
    Runs old
    × ((stored : Stored) × ResumeStored (ResumeAnswer.Refused refusal) stored × Appended 0 (Event.Resume 0 entry fetched (ResumeAnswer.Refused refusal) stored) old new)
ResumeTurned entry fetched (Err stopped) old new = StoppedBy stopped.stop old new

-- What became of the boards and the blocks: a board that is taken goes out, with the payload that came in;
-- the blocks of a refused resumption go to the pool; and where it was stopped, all comes back.
abbrev pub ResumeGave : {K : Type 0} → ℕ → Option (Ticket × Fetched) → Result Claimed ResumeStop → Housed K → Housed K → Type 0
ResumeGave entry held (Ok (Claimed.Taken taken)) old new =
    (taken.entry ≡ entry) × ((ticket : Ticket) × (held ≡ Some (ticket, Fetched.Whole taken.payload))) × (new.pool ≡ old.pool) × TakenFrom 0 taken old.places new.house_log new.places
ResumeGave entry held (Ok (Claimed.Kept kept state)) old new = ⊥
ResumeGave entry held (Ok (Claimed.Refused refusal)) old new =
    (new.pool.free ≡ old.pool.free + blocks_in held) × RoomierPlaces old.places new.places
ResumeGave entry held (Err stopped) old new =
    (new.pool ≡ old.pool) × RoomierPlaces old.places new.places × (stopped.held ≡ held)

-- The daemon may resume the row: the boot runs, the row is put off, and there is room for what follows.
pub record MayResume (a : HouseLogView) (entry : ℕ) : Type 0 where
  pub loaded : a.loaded ≡ true
  pub runs : Runs a
  pub booted : 0 < boots (past_in a)
  pub put_off : IsPutOff a entry
  pub room : owed (past_in a) + 16 ≤ a.room

-- What is decided of a hold's request then.
abbrev pub resume_verdict : HouseLogView → ℕ → Ticket → Decision
resume_verdict a entry ticket = verdict (basis_in a) (past_in a) 0 ticket.request (Stage.Resume entry ticket.release)

-- What came in is the daemon's hold, or it has none.
abbrev pub HoldIs : HouseLogView → Option (Ticket × Fetched) → Type 0
HoldIs a (Some held) = hold (past_in a) 0 ≡ Some (held_by held.0 (block_count held.1))
HoldIs a None = hold (past_in a) 0 ≡ None

-- The resumption may be refused so, and not for the keeper's fault.
pub record MayFail (a : HouseLogView) (entry : ℕ) (held : Option (Ticket × Fetched)) (refusal : Refusal) : Type 0 where
  pub hold_is : HoldIs a held
  pub fetched : ResumeFetched (basis_in a) (past_in a) entry (note_in held) (ResumeAnswer.Refused refusal)
  pub other : is_keeper_fault refusal ≡ false

-- The row begins: its request is accepted, its payload is whole, and the board of its device is home.
pub record IsToResume (a : HouseLogView) (entry : ℕ) (ticket : Ticket) (payload : SealedBytes) (number : ℕ) : Type 0 where
  pub may : MayResume a entry
  pub hold_is : IsOpenHold a entry ticket (Fetched.Whole payload)
  pub accepted : IsAccept (resume_verdict a entry ticket)
  pub board : DeviceHome (basis_in a) (past_in a) may.put_off.row.device number

-- The events of a row that begins, whose begin is in doubt, and that fails.
abbrev pub begun_event : ℕ → FetchNote → Event
begun_event entry note = Event.Resume 0 entry (Some note) ResumeAnswer.Begun Stored.Yes

abbrev pub doubt_event : ℕ → FetchNote → Event
doubt_event entry note = Event.Resume 0 entry (Some note) (ResumeAnswer.Refused Refusal.KeeperFault) Stored.Fault

abbrev pub failed_event : ℕ → Option FetchNote → Refusal → Stored → Event
failed_event entry fetched refusal stored = Event.Resume 0 entry fetched (ResumeAnswer.Refused refusal) stored
