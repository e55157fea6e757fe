-- What a past says of rows, boards and the change in doubt.
--
-- The three are told together, since each rests on the others: a row's device and version come from
-- what boards show, the board of a step comes from its row, and a boot may find that the change in
-- doubt was made.
use Rattle.std.specs.Prelude.{ℕ, Bool, false, ◌==◌, ◌+◌, List, [], ◌∷◌, Option, Some, None, if◌then◌else◌, find, map, length, slice_get, unwrap_or, option_map, option_and_then}
use Rattle.std.specs.Str.{bytes_eq}
use Rattle.fw_facts.specs.declared.seen.Seen.{Seen}
use Rattle.fw_facts.specs.declared.view.DeviceView.{DeviceView}
use Rattle.fw_facts.specs.Views.{guids_of, version_of}
use Rattle.device_list.specs.declared.selector.Selector.{Selector}
use Rattle.device_list.specs.Lists.{place}
use Rattle.history_keeper.specs.declared.row.Row.{Row}
use Rattle.history_keeper.specs.declared.row.RowState.{RowState}
use Rattle.history_keeper.specs.declared.change.Change.{Change}
use Rattle.history_keeper.specs.Changes.{changed}
use Rattle.update_log.specs.declared.event.Event.{Event}
use Rattle.update_log.specs.declared.event.Found.{Found}
use Rattle.update_log.specs.declared.event.Stored.{Stored}
use Rattle.update_log.specs.declared.answer.ClaimAnswer.{ClaimAnswer}
use Rattle.update_log.specs.declared.answer.ResumeAnswer.{ResumeAnswer}
use Rattle.update_log.specs.declared.answer.PlugAnswer.{PlugAnswer}
use Rattle.update_log.specs.declared.refusal.Refusal.{Refusal}
use Rattle.update_log.specs.declared.request.Request.{Request}
use Rattle.update_log.specs.declared.request.InstallFlags.{InstallFlags}
use Rattle.update_log.specs.declared.facts.Facts.{Facts}
use Rattle.update_log.specs.declared.live.LiveEntry.{LiveEntry}
use Rattle.release_catalogue.specs.Lookup.{Chosen, chosen}
use Rattle.update_log.specs.Pasts.{time_of, is_keeper_fault}
use Rattle.update_log.specs.Holding.{live}
use Rattle.update_log.specs.Boards.{Board, devices, board_at, board_with}

-- What a log stands on: the facts, and the rows before it.
pub record Basis : Type 0 where
  pub facts : Facts
  pub opening : List Row

abbrev pub basis_of : Facts → List Row → Basis
basis_of facts opening = record { facts = facts; opening = opening }

-- The rows, what each board shows, and the change of which nobody knows whether it was stored.
pub record Known : Type 0 where
  pub rows : List Row
  pub shown : ℕ → Seen
  pub doubt : Option Change

-- The row of an entry.
abbrev pub row_of : List Row → ℕ → Option Row
row_of rows entry = find (λ r. r.entry == entry) rows

-- The row of a tag.
abbrev pub row_with_tag : List Row → List ℕ → Option Row
row_with_tag rows tag = find (λ r. bytes_eq tag r.tag) rows

-- The number of the board on which an entry is installed: the device of its row.
abbrev pub board_of : Facts → List Row → ℕ → Option ℕ
board_of facts rows entry = option_and_then (λ r. board_with facts r.device) (row_of rows entry)

-- The entry is installed on that board.
abbrev pub is_board_of : Facts → List Row → ℕ → ℕ → Bool
is_board_of facts rows entry board = unwrap_or (option_map (λ b. b == board) (board_of facts rows entry)) false

-- The live entry's row is of that device.
abbrev pub is_on : List Row → List ℕ → LiveEntry → Bool
is_on rows device l = unwrap_or (option_map (λ r. bytes_eq r.device device) (row_of rows l.entry)) false

-- A device as it stands: its sheet, what its board shows, and its live entry.
abbrev pub view_of : List LiveEntry → Known → Board → DeviceView
view_of entries known board =
    record {
      sheet = board.sheet;
      seen = known.shown board.number;
      claim = option_map (λ l. l.entry) (find (is_on known.rows board.sheet.device) entries);
    }

-- All devices as they stand, in board order.
abbrev pub views_in : Facts → List LiveEntry → Known → List DeviceView
views_in facts entries known = map (view_of entries known) (devices facts)

-- The device of a request, and the release chosen for it.
pub record Target : Type 0 where
  pub place : ℕ
  pub view : DeviceView
  pub chosen : Chosen

abbrev pub target_of : Facts → List ℕ → ℕ → DeviceView → Option Target
target_of facts version place view =
    option_map (λ c. record { place = place; view = view; chosen = c }) (chosen facts.catalogue (guids_of view) version)

abbrev pub target_at : Facts → List DeviceView → List ℕ → ℕ → Option Target
target_at facts views version place = option_and_then (target_of facts version place) (slice_get views place)

-- The target of a request: the device that its selector finds, and the first release in the
-- catalogue of the version asked for whose component provides a GUID that the device shows.
abbrev pub target : Facts → List DeviceView → Request → Option Target
target facts views request = option_and_then (target_at facts views request.version) (place request.device views)

-- The number of a request's flags: the sum of 1 for offline, 2 for allow-reinstall, 4 for allow-older.
abbrev pub flag_number : Bool → ℕ → ℕ
flag_number set number = if set then number else 0

abbrev pub flags_number : InstallFlags → ℕ
flags_number f = flag_number f.offline 1 + flag_number f.allow_reinstall 2 + flag_number f.allow_older 4

-- The number of a refusal.
abbrev pub refusal_number : Refusal → ℕ
refusal_number Refusal.NoDevice = 1
refusal_number Refusal.NoRelease = 2
refusal_number (Refusal.Busy entry) = 3
refusal_number (Refusal.Unsettled entry) = 4
refusal_number Refusal.NotUpdatable = 5
refusal_number Refusal.Locked = 6
refusal_number (Refusal.Problem problem) = 7
refusal_number Refusal.SameVersion = 8
refusal_number Refusal.Older = 9
refusal_number (Refusal.Unmet unmet) = 10
refusal_number (Refusal.Veto plugin) = 11
refusal_number (Refusal.Size len min max) = 12
refusal_number (Refusal.NoRoom need free) = 13
refusal_number (Refusal.Payload note) = 14
refusal_number Refusal.RowsFull = 15
refusal_number Refusal.KeeperFault = 16
refusal_number (Refusal.Retry fault) = 17

-- The row that an accepted request adds. Its version is that of the release, as the catalogue has it, its duration and protocol are
-- those of the device's sheet, and it tries the row again that the request names.
abbrev pub new_row : ℕ → ℕ → ℕ → Request → RowState → Target → Row
new_row entry time client request state t =
    record {
      entry = entry;
      tag = request.tag;
      client = client;
      device = t.view.sheet.device;
      component = t.chosen.component.id;
      version_old = unwrap_or (version_of t.view) [];
      version_new = t.chosen.release.version;
      digest = t.chosen.release.digest;
      flags = flags_number request.flags;
      state = state;
      reason = 0;
      time_added = time;
      time_changed = time;
      duration = t.view.sheet.duration;
      protocol = t.view.sheet.protocol;
      retry_of = request.retry_of;
    }

-- The change that adds it, with the next entry.
abbrev pub addition : Facts → ℕ → List LiveEntry → Known → ℕ → Request → RowState → Option Change
addition facts time entries known client request state =
    option_map
    (λ t. Change.Add (new_row (length known.rows + 1) time client request state t))
    (target facts (views_in facts entries known) request)

-- The reason that the entry's row has.
abbrev pub reason_of : List Row → ℕ → ℕ
reason_of rows entry = unwrap_or (option_map (λ r. r.reason) (row_of rows entry)) 0

-- The change that gives a row another state, and leaves its reason.
abbrev pub advance : ℕ → Known → ℕ → RowState → Option Change
advance time known entry state = Some (Change.Advance entry state (reason_of known.rows entry) time)

-- The change that a resumption asks for: the row is begun, or it has failed for the reason that the
-- refusal gives. Where the store failed at the row's begin, that begin is the change.
abbrev pub resumption : ℕ → Known → ℕ → ResumeAnswer → Option Change
resumption time known entry ResumeAnswer.Begun = advance time known entry RowState.Begun
resumption time known entry (ResumeAnswer.Refused refusal) =
    if is_keeper_fault refusal then advance time known entry RowState.Begun
    else Some (Change.Advance entry RowState.Failed (refusal_number refusal) time)

-- The change that an event asks the keeper for, or would ask for where its request is accepted.
abbrev pub asked : Facts → ℕ → List LiveEntry → Known → Event → Option Change
asked facts time entries known (Event.Claim client request fetched answer) =
    addition facts time entries known client request RowState.Begun
asked facts time entries known (Event.Schedule client request answer) =
    addition facts time entries known client request RowState.Pending
asked facts time entries known (Event.Resume client entry fetched answer stored) = resumption time known entry answer
asked facts time entries known (Event.Finish client entry state stored) = advance time known entry state
asked facts time entries known (Event.Judge client entry version state stored) = advance time known entry state
asked facts time entries known _ = None

-- What became of the change that an event asks for: it was made, or is in doubt, or wasn't made.
pub data Fate : Type 0 where
  Made : Fate
  Doubtful : Fate
  Dropped : Fate

abbrev pub fate_stored : Stored → Fate
fate_stored Stored.Yes = Made
fate_stored Stored.Fault = Doubtful
fate_stored Stored.NoMemory = Dropped
fate_stored Stored.Unchanged = Dropped

abbrev pub fate_answered : ClaimAnswer → Fate
fate_answered (ClaimAnswer.Entry entry) = Made
fate_answered (ClaimAnswer.Kept entry state) = Dropped
fate_answered (ClaimAnswer.Refused refusal) = if is_keeper_fault refusal then Doubtful else Dropped

abbrev pub fate : Event → Fate
fate (Event.Claim client request fetched answer) = fate_answered answer
fate (Event.Schedule client request answer) = fate_answered answer
fate (Event.Resume client entry fetched answer stored) = fate_stored stored
fate (Event.Finish client entry state stored) = fate_stored stored
fate (Event.Judge client entry version state stored) = fate_stored stored
fate _ = Dropped

-- The rows with the change, where it was made.
abbrev pub rows_by : Fate → Option Change → List Row → List Row
rows_by Made (Some change) rows = changed change rows
rows_by _ change rows = rows

-- The rows with the change in doubt, where a boot found that it was made.
abbrev pub rows_found : Found → Option Change → List Row → List Row
rows_found Found.Kept (Some change) rows = changed change rows
rows_found _ doubt rows = rows

-- The rows after an event.
abbrev pub rows_after : Facts → ℕ → List LiveEntry → Known → Event → List Row
rows_after facts time entries known (Event.Boot number new_time limit found boards) =
    rows_found found known.doubt known.rows
rows_after facts time entries known event = rows_by (fate event) (asked facts time entries known event) known.rows

-- The change in doubt: a new one where an event's change is doubtful, and none once a boot has found
-- what became of it.
abbrev pub doubt_by : Fate → Option Change → Option Change → Option Change
doubt_by Doubtful change doubt = change
doubt_by _ change doubt = doubt

abbrev pub doubt_found : Found → Option Change → Option Change
doubt_found Found.Kept doubt = None
doubt_found Found.Lost doubt = None
doubt_found Found.Plain doubt = doubt
doubt_found Found.Fault doubt = doubt

abbrev pub doubt_after : Facts → ℕ → List LiveEntry → Known → Event → Option Change
doubt_after facts time entries known (Event.Boot number new_time limit found boards) = doubt_found found known.doubt
doubt_after facts time entries known event = doubt_by (fate event) (asked facts time entries known event) known.doubt

-- What is said of one board alone.
abbrev pub for_board : {X : Type 0} → Option ℕ → ℕ → X → Option X
for_board None board x = None
for_board (Some number) board x = if number == board then Some x else None

-- The board of the device that a selector finds.
abbrev pub board_found : Facts → List LiveEntry → Known → Selector → Option ℕ
board_found facts entries known selector = option_and_then (board_at facts) (place selector (views_in facts entries known))

-- What an event tells that a board shows, where it tells of that board: a boot of each board, the end
-- of a step of the board of its entry, and a plug or an unplug that was done of the board found.
abbrev pub tells : Facts → List LiveEntry → Known → Event → ℕ → Option Seen
tells facts entries known (Event.Boot number time limit found boards) board =
    option_map (λ b. b.seen) (slice_get boards board)
tells facts entries known (Event.End client entry op outcome told seen) board =
    for_board (board_of facts known.rows entry) board seen
tells facts entries known (Event.Plug client device (PlugAnswer.Done seen)) board =
    for_board (board_found facts entries known device) board seen
tells facts entries known (Event.Unplug client device (PlugAnswer.Done seen)) board =
    for_board (board_found facts entries known device) board seen
tells facts entries known _ board = None

-- What each board shows after an event: what the event tells, or else what it showed before.
abbrev pub shown_after : Facts → List LiveEntry → Known → Event → ℕ → Seen
shown_after facts entries known event board = unwrap_or (tells facts entries known event board) (known.shown board)

-- What is known after an event.
abbrev pub known_after : Facts → ℕ → List LiveEntry → Known → Event → Known
known_after facts time entries known event =
    record {
      rows = rows_after facts time entries known event;
      shown = shown_after facts entries known event;
      doubt = doubt_after facts time entries known event;
    }

-- Before the first event the rows are the opening, no board shows anything, and nothing is in doubt.
abbrev pub at_first : List Row → Known
at_first opening = record { rows = opening; shown = λ board. Seen.Gone; doubt = None }

-- What a past says, over the rows before it.
abbrev pub known : Basis → List Event → Known
known basis [] = at_first basis.opening
known basis (event ∷ past) = known_after basis.facts (time_of past) (live past) (known basis past) event

-- The rows.
abbrev pub rows : Basis → List Event → List Row
rows basis past = (known basis past).rows

-- What a board shows: what the last event says that tells of it.
abbrev pub seen : Basis → List Event → ℕ → Seen
seen basis past board = (known basis past).shown board

-- The change in doubt.
abbrev pub doubt : Basis → List Event → Option Change
doubt basis past = (known basis past).doubt

-- The devices as they stand.
abbrev pub views : Basis → List Event → List DeviceView
views basis past = views_in basis.facts (live past) (known basis past)
