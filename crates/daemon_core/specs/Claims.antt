-- What a claim did.
use Rattle.std.specs.Prelude.{◌≡◌, ◌≤◌, ◌<◌, ℕ, ◌+◌, ◌^◌, ◌-◌, true, false, min, List, [], length, Option, Some, None, option_and_then, position, slice_get, slice_set, Result, Ok, Err}
use Rattle.std.specs.Str.{bytes_eq}
use Rattle.emulated_boards.specs.Boards.{BoardState, SameBoard}
use Rattle.fw_facts.specs.declared.seen.Seen.{Seen}
use Rattle.history_keeper.specs.Changes.{IsTimely, Suits}
use Rattle.history_keeper.specs.declared.change.Change.{Change}
use Rattle.history_keeper.specs.declared.row.Row.{Row}
use Rattle.history_keeper.specs.declared.row.RowState.{RowState}
use Rattle.update_log.specs.Boards.{board_with}
use Rattle.update_log.specs.Holding.{hold, live, step_open}
use Rattle.update_log.specs.Known.{Basis, addition, known, target, views}
use Rattle.update_log.specs.Legal.{ClaimAnswered, next_entry}
use Rattle.update_log.specs.Pasts.{boots, time_of}
use Rattle.update_log.specs.Steps.{trace}
use Rattle.update_log.specs.Verdicts.{verdict}
use Rattle.update_log.specs.declared.answer.ClaimAnswer.{ClaimAnswer}
use Rattle.update_log.specs.declared.decision.Decision.{Decision}
use Rattle.update_log.specs.declared.decision.Stage.{Stage}
use Rattle.update_log.specs.declared.event.Event.{Event}
use Rattle.update_log.specs.declared.facts.Facts.{Facts}
use Rattle.update_log.specs.declared.live.LiveEntry.{LiveEntry}
use Rattle.update_log.specs.declared.refusal.FetchNote.{FetchNote}
use Rattle.update_log.specs.declared.request.Request.{Request}
use Rattle.daemon_core.specs.declared.claimed.Claimed.{Claimed}
use Rattle.daemon_core.specs.declared.claimed.ClaimStop.{ClaimStop}
use Rattle.daemon_core.specs.declared.claimed.Taken.{Taken}
use Rattle.daemon_core.specs.declared.fetched.Fetched.{Fetched}
use Rattle.daemon_core.specs.declared.hold.Ticket.{Ticket}
use Rattle.daemon_core.specs.declared.stop.Stop.{Stop}
use Rattle.daemon_core.specs.HouseLog.{Runs}
use Rattle.daemon_core.specs.Boards.{is_out}
use Rattle.daemon_core.specs.Fetches.{block_count, note_of}
use Rattle.daemon_core.specs.Holds.{held_by}
use Rattle.daemon_core.specs.Housed.{basis_in, HouseLogView, Housed, Place, past_in}
use Rattle.daemon_core.specs.Owed.{owed}
use Rattle.daemon_core.specs.PutOff.{IsAccept}
use Rattle.daemon_core.specs.Returns.{ComesHome, place_at}

-- The answer in the log, of what a claim gave.
abbrev pub claim_answer : Claimed → ClaimAnswer
claim_answer (Claimed.Taken taken) = ClaimAnswer.Entry taken.entry
claim_answer (Claimed.Kept entry state) = ClaimAnswer.Kept entry state
claim_answer (Claimed.Refused refusal) = ClaimAnswer.Refused refusal

-- The event of a claim with a ticket.
abbrev pub claim_event : ℕ → Request → Fetched → Claimed → Event
claim_event client request fetched claimed = Event.Claim client request (note_of fetched) (claim_answer claimed)

-- A claim, or why it was stopped.
abbrev pub stopped_by : Result Claimed ClaimStop → Result Claimed Stop
stopped_by (Ok claimed) = Ok claimed
stopped_by (Err stopped) = Err stopped.stop

-- A board that may have got more room for marks.
abbrev pub RoomierBoard : Option BoardState → Option BoardState → Type 0
RoomierBoard None None = Unit {0}
RoomierBoard None (Some new) = ⊥
RoomierBoard (Some old) None = ⊥
RoomierBoard (Some old) (Some new) = SameBoard old new

pub record RoomierPlace (old new : Place) : Type 0 where
  pub told_same : new.told ≡ old.told
  pub board_same : RoomierBoard old.board new.board

abbrev pub RoomierAt : List Place → ℕ → Place → Type 0
RoomierAt old number place = (was : Place) × (slice_get old number ≡ Some was) × RoomierPlace was place

-- All boards are as before, but for such room.
pub record RoomierPlaces (old new : List Place) : Type 0 where
  pub count : length new ≡ length old
  pub each : (number : ℕ) (place : Place) → slice_get new number ≡ Some place → RoomierAt old number place

-- The places without a board that is out.
abbrev pub places_without : List Place → ℕ → List Place
places_without places number = slice_set places number (record (place_at places number) { board = None })

-- The place of the plugin of a board's sheet among the enabled ones.
abbrev pub plugin_at : Facts → ℕ → Option ℕ
plugin_at facts number =
    option_and_then (λ sheet. position (λ vetoes. bytes_eq vetoes.plugin sheet.plugin) facts.vetoes) (slice_get facts.sheets number)

-- A place in 32 bits: one past 2^32 - 1 is given as 2^32 - 1.
abbrev pub place_given : ℕ → ℕ
place_given place = min place (2 ^ 32 - 1)

-- There is such a plugin, and this is its place.
pub record IsServedBy (facts : Facts) (number plugin : ℕ) : Type 0 where
  pub place : ℕ
  pub place_is : plugin_at facts number ≡ Some place
  pub plugin_is : plugin ≡ place_given place

-- An entry was taken: it is the client's live one, with no step yet; its board stands to the log, and
-- has room for eight marks.
pub record IsTaken (basis : Basis) (first : List Seen) (past : List Event) (client : ℕ) (taken : Taken) (number : ℕ) : Type 0 where
  pub l : LiveEntry
  pub comes : ComesHome basis first past client taken.entry number l [] taken.board taken.payload.count
  pub closed : step_open past taken.entry ≡ None
  pub traced : trace basis taken.entry past ≡ Some taken.trace
  pub no_steps : taken.trace.steps ≡ []
  pub marks : 8 ≤ taken.board.room
  pub served : IsServedBy basis.facts number taken.plugin

-- The entry was taken in this house log, and its board went out: it is that of its place, which may have
-- got more room.
abbrev pub TakenFrom : ℕ → Taken → List Place → HouseLogView → List Place → Type 0
TakenFrom client taken places a after =
    (number : ℕ) × IsTaken (basis_in a) a.first (past_in a) client taken number
    × RoomierPlaces (places_without places number) after × RoomierBoard (place_at places number).board (Some taken.board)

-- What became of the boards and the blocks: a board that is taken goes out, and the blocks of a claim
-- that took no entry go to the pool, or come back where it was stopped.
abbrev pub ClaimGave : {K : Type 0} → ℕ → Ticket → Fetched → Result Claimed ClaimStop → Housed K → Housed K → Type 0
ClaimGave client ticket fetched (Ok (Claimed.Taken taken)) old new =
    (fetched ≡ Fetched.Whole taken.payload) × (new.pool ≡ old.pool) × TakenFrom client taken old.places new.house_log new.places
ClaimGave client ticket fetched (Ok (Claimed.Kept entry state)) old new =
    (new.pool.free ≡ old.pool.free + block_count fetched) × RoomierPlaces old.places new.places
ClaimGave client ticket fetched (Ok (Claimed.Refused refusal)) old new =
    (new.pool.free ≡ old.pool.free + block_count fetched) × RoomierPlaces old.places new.places
ClaimGave client ticket fetched (Err stopped) old new =
    (new.pool ≡ old.pool) × RoomierPlaces old.places new.places × (stopped.ticket ≡ ticket) × (stopped.fetched ≡ fetched)

-- A client may claim with a ticket: the boot runs, the ticket is of the client's open hold of so many
-- blocks, and there is room for what follows.
pub record MayClaim (a : HouseLogView) (client : ℕ) (ticket : Ticket) (blocks : ℕ) : Type 0 where
  pub loaded : a.loaded ≡ true
  pub runs : Runs a
  pub booted : 0 < boots (past_in a)
  pub held_is : hold (past_in a) client ≡ Some (held_by ticket blocks)
  pub asked : ticket.pending ≡ None
  pub room : owed (past_in a) + 16 ≤ a.room
  pub row_room : 1 ≤ a.core.row_room

-- What is decided of its request then, and an answer that it may get.
abbrev pub claim_verdict : HouseLogView → ℕ → Ticket → Decision
claim_verdict a client ticket = verdict (basis_in a) (past_in a) client ticket.request (Stage.Claim ticket.release)

abbrev pub MayAnswer : HouseLogView → ℕ → Ticket → FetchNote → ClaimAnswer → Type 0
MayAnswer a client ticket note answer =
    ClaimAnswered note (target a.facts (views (basis_in a) (past_in a)) ticket.request) (next_entry (basis_in a) (past_in a)) (claim_verdict a client ticket) answer

-- The board of a device: it has that ID, and is home.
pub record DeviceHome (basis : Basis) (past : List Event) (device : List ℕ) (number : ℕ) : Type 0 where
  pub board_is : board_with basis.facts device ≡ Some number
  pub home : is_out basis past number ≡ false

-- The row of a request that was accepted, which is to be stored, and its board.
pub record IsToStore (a : HouseLogView) (client : ℕ) (ticket : Ticket) (row : Row) (number : ℕ) : Type 0 where
  pub accepted : IsAccept (claim_verdict a client ticket)
  pub added : addition a.facts (time_of (past_in a)) (live (past_in a)) (known (basis_in a) (past_in a)) client ticket.request RowState.Begun ≡ Some (Change.Add row)
  pub entry_is : row.entry ≡ length a.core.rows + 1
  pub suits : Suits (Change.Add row) a.core.rows
  pub timely : IsTimely (Change.Add row)
  pub board : DeviceHome (basis_in a) (past_in a) row.device number
