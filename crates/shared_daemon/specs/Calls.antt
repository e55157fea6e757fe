-- What a call of the daemon did.
use Rattle.std.specs.Prelude.{◌≡◌, ◌⊎◌, ℕ, true, false, List, [], ◌∷◌, ◌++◌, length, Option, Some, Result, Ok, Err, option_map}
use Rattle.block_pool.specs.Views.{SealedBytes}
use Rattle.emulated_boards.specs.Boards.{BoardState}
use Rattle.device_list.specs.declared.selector.Selector.{Selector}
use Rattle.update_log.specs.declared.event.Event.{Event}
use Rattle.update_log.specs.declared.event.Query.{Query}
use Rattle.update_log.specs.Known.{row_of, rows, views}
use Rattle.update_log.specs.Pasts.{off}
use Rattle.daemon_core.specs.declared.finished.Finished.{Finished}
use Rattle.daemon_core.specs.declared.finished.FinishStop.{FinishStop}
use Rattle.daemon_core.specs.declared.judged.DeviceRow.{DeviceRow}
use Rattle.daemon_core.specs.declared.judged.Judged.{Judged}
use Rattle.daemon_core.specs.declared.judged.Settling.{Settling}
use Rattle.daemon_core.specs.declared.judged.Standing.{Standing}
use Rattle.daemon_core.specs.declared.off.Off.{Off}
use Rattle.daemon_core.specs.declared.stop.Stop.{Stop}
use Rattle.daemon_core.specs.Judging.{standing}
use Rattle.daemon_core.specs.Settling.{device_row}
use Rattle.turn_lock.specs.Lists.{BeginsWith, beyond, made_by}
use Rattle.turn_lock.specs.Shown.{PassView, TurnView}
use Rattle.shared_daemon.specs.declared.entry.Entry.{Entry}
use Rattle.shared_daemon.specs.Entries.{entry_of, maker_of, past_seen}
use Rattle.shared_daemon.specs.Names.{IsLogOf, Name}

-- A turn of a client that saw a log meets this one: it begins with what was seen, and others alone made
-- what came since.
pub record Meets (name : Name) (client : ℕ) (seen met : List Entry) : Type 0 where
  pub begins : BeginsWith met seen
  pub others : made_by maker_of client (beyond seen met) ≡ []
  pub log : IsLogOf name met

-- One event was put behind the log that was met.
abbrev pub Adds : ℕ → Event → List Entry → List Entry → Type 0
Adds client event met log = log ≡ met ++ entry_of client event ∷ []

-- The boot was off already, or its power was cut in this turn.
abbrev pub FoundOff : ℕ → List Entry → List Entry → Type 0
FoundOff client met log =
    ((off (past_seen met) ≡ true) × (log ≡ met))
    ⊎ ((off (past_seen met) ≡ false) × Adds client Event.Cut met log)

-- The boot ran, and nothing was put behind the log.
abbrev pub AddsNone : List Entry → List Entry → Type 0
AddsNone met log = (off (past_seen met) ≡ false) × (log ≡ met)

-- The boot ran, and this event was put behind the log.
abbrev pub AddsOn : ℕ → Event → List Entry → List Entry → Type 0
AddsOn client event met log = (off (past_seen met) ≡ false) × Adds client event met log

-- A turn that answers by the event that it put behind the log, and else by why it put none there.
abbrev pub TurnedIn : {A : Type 0} → ℕ → (A → Event) → Result A Stop → List Entry → List Entry → Type 0
TurnedIn client event (Ok answer) met log = AddsOn client (event answer) met log
TurnedIn client event (Err Stop.Off) met log = FoundOff client met log
TurnedIn client event (Err Stop.NoMemory) met log = AddsNone met log

-- One that takes no memory.
abbrev pub TurnedOrOffIn : {A : Type 0} → ℕ → (A → Event) → Result A Off → List Entry → List Entry → Type 0
TurnedOrOffIn client event (Ok answer) met log = AddsOn client (event answer) met log
TurnedOrOffIn client event (Err stop) met log = FoundOff client met log

-- A finish: one that was stopped hands the board and the payload back.
abbrev pub FinishedIn : ℕ → ℕ → BoardState → SealedBytes → Result Finished FinishStop → List Entry → List Entry → Type 0
FinishedIn client entry board payload (Ok finished) met log = AddsOn client (Event.Finish client entry finished.state finished.stored) met log
FinishedIn client entry board payload (Err stop) met log = FoundOff client met log × (stop.board ≡ board) × (stop.payload ≡ payload)

-- How the row of an entry stands to its judgement in a log, where the entry has a row.
abbrev pub standing_in : Name → List Entry → ℕ → Option Standing
standing_in name log entry =
    option_map
    (standing (past_seen log) (views name.basis (past_seen log)) entry)
    (row_of (rows name.basis (past_seen log)) entry)

-- A judgement is answered how the row stood. Only one that was done is put behind the log.
abbrev pub JudgedIn : Name → ℕ → ℕ → Result Judged Stop → List Entry → List Entry → Type 0
JudgedIn name client entry (Ok (Judged.Done state stored)) met log =
    (version : List ℕ) × (standing_in name met entry ≡ Some (Standing.Judged version state)) × AddsOn client (Event.Judge client entry version state stored) met log
JudgedIn name client entry (Ok Judged.Absent) met log = (standing_in name met entry ≡ Some Standing.Absent) × AddsNone met log
JudgedIn name client entry (Ok Judged.Waits) met log = (standing_in name met entry ≡ Some Standing.Waits) × AddsNone met log
JudgedIn name client entry (Ok Judged.Settled) met log = (standing_in name met entry ≡ Some Standing.Settled) × AddsNone met log
JudgedIn name client entry (Err Stop.Off) met log = FoundOff client met log
JudgedIn name client entry (Err Stop.NoMemory) met log = AddsNone met log

-- What is found of the device of a selector in a log.
abbrev pub device_in : Name → List Entry → Selector → DeviceRow
device_in name log device =
    device_row (views name.basis (past_seen log)) (rows name.basis (past_seen log)) device

-- A client that settles a device is answered what was found of it. Where its row was judged, that is put
-- behind the log, and else the question.
abbrev pub SettledIn : Name → ℕ → Selector → Result Settling Stop → List Entry → List Entry → Type 0
SettledIn name client device (Ok (Settling.Judged entry state stored)) met log =
    (device_in name met device ≡ DeviceRow.Waiting entry)
    × ((version : List ℕ) × (standing_in name met entry ≡ Some (Standing.Judged version state)) × AddsOn client (Event.Judge client entry version state stored) met log)
SettledIn name client device (Ok Settling.NoDevice) met log =
    (device_in name met device ≡ DeviceRow.NoDevice) × AddsOn client (Event.Query client (Query.Settle device)) met log
SettledIn name client device (Ok (Settling.Waits entry)) met log =
    (device_in name met device ≡ DeviceRow.Waiting entry) × (standing_in name met entry ≡ Some Standing.Waits)
    × AddsOn client (Event.Query client (Query.Settle device)) met log
SettledIn name client device (Ok Settling.Nothing) met log =
    (device_in name met device ≡ DeviceRow.Nothing) × AddsOn client (Event.Query client (Query.Settle device)) met log
SettledIn name client device (Err Stop.Off) met log = FoundOff client met log
SettledIn name client device (Err Stop.NoMemory) met log = AddsNone met log

-- A call took one turn of the pass: there is the log that the turn met, of which the call made this; what
-- the pass sees then is the whole log, and its own entries gain what the turn put behind the log.
pub record Took (name : Name) (did : List Entry → List Entry → Type 0) (old new : PassView Entry) : Type 0 where
  pub met : List Entry
  pub meets : Meets name old.number old.seen met
  pub does : did met new.seen
  pub mine : new.mine ≡ old.mine ++ beyond met new.seen

-- As a turn begins: what it met, and what its pass knew.
pub record Begins {X : Type 0} (name : Name) (old : PassView Entry) (turn : TurnView X Entry) : Type 0 where
  pub number : turn.number ≡ old.number
  pub base : turn.base ≡ length name.start
  pub mine : turn.mine ≡ old.mine
  pub own : turn.mine ≡ made_by maker_of turn.number (beyond name.start turn.seen)
  pub meets : Meets name old.number old.seen turn.seen

-- The client saw a log of which this holds, and others alone made what came since.
pub record WasSeen (name : Name) (client : ℕ) (Holds : List Entry → Type 0) (met : List Entry) : Type 0 where
  pub seen : List Entry
  pub log : IsLogOf name seen
  pub meets : Meets name client seen met
  pub holds : Holds seen
