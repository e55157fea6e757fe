-- What one event makes of the rows, the views and the traces, over what is kept of the log.
use Rattle.std.specs.Prelude.{◌≡◌, ℕ, Bool, true, false, not, ◌==◌, ◌<◌, ◌+◌, List, [], ◌++◌, Option, Some, None, if◌then◌else◌, filter, map, length, slice_get, option_map, option_and_then}
use Rattle.std.specs.Option.{option_to_list}
use Rattle.fw_facts.specs.declared.seen.Seen.{Seen}
use Rattle.fw_facts.specs.declared.view.DeviceView.{DeviceView}
use Rattle.device_list.specs.declared.selector.Selector.{Selector}
use Rattle.device_list.specs.Lists.{place}
use Rattle.history_keeper.specs.declared.row.Row.{Row}
use Rattle.history_keeper.specs.declared.row.RowState.{RowState}
use Rattle.history_keeper.specs.declared.change.Change.{Change}
use Rattle.history_keeper.specs.Changes.{changed}
use Rattle.update_log.specs.declared.event.Event.{Event}
use Rattle.update_log.specs.declared.event.Back.{Back}
use Rattle.update_log.specs.declared.event.Found.{Found}
use Rattle.update_log.specs.declared.answer.ClaimAnswer.{ClaimAnswer}
use Rattle.update_log.specs.declared.answer.ResumeAnswer.{ResumeAnswer}
use Rattle.update_log.specs.declared.answer.PlugAnswer.{PlugAnswer}
use Rattle.update_log.specs.declared.request.Request.{Request}
use Rattle.update_log.specs.declared.facts.Facts.{Facts}
use Rattle.update_log.specs.declared.live.Held.{Held}
use Rattle.update_log.specs.declared.trace.Trace.{Trace}
use Rattle.update_log.specs.declared.trace.Traced.{Traced}
use Rattle.update_log.specs.declared.trace.TraceStep.{TraceStep}
use Rattle.update_log.specs.Pasts.{is_keeper_fault}
use Rattle.update_log.specs.Holding.{request_held}
use Rattle.update_log.specs.Known.{Fate, doubt_by, doubt_found, fate, for_board, new_row, reason_of, refusal_number, row_of, target}
use Rattle.update_log.specs.Steps.{traced, with_step}

-- The row of the answer was added, or it isn't known whether it was.
abbrev pub is_taken : ClaimAnswer → Bool
is_taken (ClaimAnswer.Entry entry) = true
is_taken (ClaimAnswer.Kept entry state) = false
is_taken (ClaimAnswer.Refused refusal) = is_keeper_fault refusal

-- The same of the event.
abbrev pub asks_row : Event → Bool
asks_row (Event.Claim client request fetched answer) = is_taken answer
asks_row (Event.Schedule client request answer) = is_taken answer
asks_row _ = false

-- The live entry that an event takes or ends. (A boot ends all of them.)
abbrev pub entry_changed : Event → Option ℕ
entry_changed (Event.Claim client request fetched (ClaimAnswer.Entry entry)) = Some entry
entry_changed (Event.Resume client entry fetched ResumeAnswer.Begun stored) = Some entry
entry_changed (Event.Finish client entry state stored) = Some entry
entry_changed (Event.GiveBack client (Back.Entry entry)) = Some entry
entry_changed _ = None

-- The change that adds the row of a request, with the next entry.
abbrev pub addition_on : Facts → ℕ → List DeviceView → List Row → ℕ → Request → RowState → Option Change
addition_on facts time views rows client request state =
    option_map
    (λ t. Change.Add (new_row (length rows + 1) time client request state t))
    (target facts views request)

-- The change that gives a row another state, and leaves its reason.
abbrev pub advance_on : ℕ → List Row → ℕ → RowState → Change
advance_on time rows entry state = Change.Advance entry state (reason_of rows entry) time

-- The change that a resumption asks for.
abbrev pub resumption_on : ℕ → List Row → ℕ → ResumeAnswer → Change
resumption_on time rows entry ResumeAnswer.Begun = advance_on time rows entry RowState.Begun
resumption_on time rows entry (ResumeAnswer.Refused refusal) =
    if is_keeper_fault refusal then advance_on time rows entry RowState.Begun
    else Change.Advance entry RowState.Failed (refusal_number refusal) time

-- The change that an event asks for, where a row that it asks for isn't refused.
abbrev pub change_on : Facts → ℕ → List DeviceView → List Row → Event → Option Change
change_on facts time views rows (Event.Claim client request fetched answer) =
    if is_taken answer then addition_on facts time views rows client request RowState.Begun else None
change_on facts time views rows (Event.Schedule client request answer) =
    if is_taken answer then addition_on facts time views rows client request RowState.Pending else None
change_on facts time views rows (Event.Resume client entry fetched answer stored) = Some (resumption_on time rows entry answer)
change_on facts time views rows (Event.Finish client entry state stored) = Some (advance_on time rows entry state)
change_on facts time views rows (Event.Judge client entry version state stored) = Some (advance_on time rows entry state)
change_on facts time views rows _ = None

-- The change, where it was made.
abbrev pub made_by : Fate → Option Change → Option Change
made_by Fate.Made change = change
made_by Fate.Doubtful change = None
made_by Fate.Dropped change = None

-- The change in doubt, where a boot found that it was made.
abbrev pub kept_by : Found → Option Change → Option Change
kept_by Found.Kept doubt = doubt
kept_by Found.Plain doubt = None
kept_by Found.Lost doubt = None
kept_by Found.Fault doubt = None

-- The change that is made at an event, which asks for a change, where another one is in doubt.
abbrev pub made_at : Event → Option Change → Option Change → Option Change
made_at (Event.Boot number time limit found boards) change doubt = kept_by found doubt
made_at event change doubt = made_by (fate event) change

-- The change that is in doubt after it.
abbrev pub doubt_at : Event → Option Change → Option Change → Option Change
doubt_at (Event.Boot number time limit found boards) change doubt = doubt_found found doubt
doubt_at event change doubt = doubt_by (fate event) change doubt

-- The rows with a change, where there is one.
abbrev pub changed_if : Option Change → List Row → List Row
changed_if None rows = rows
changed_if (Some change) rows = changed change rows

-- The board of the device that a selector finds.
abbrev pub board_on : List ℕ → List DeviceView → Selector → Option ℕ
board_on boards views selector = option_and_then (slice_get boards) (place selector views)

-- The board of an entry: that of its row's device.
abbrev pub board_of_entry : List ℕ → List DeviceView → List Row → ℕ → Option ℕ
board_of_entry boards views rows entry =
    option_and_then (λ r. board_on boards views (Selector.Id r.device)) (row_of rows entry)

-- What an event tells that a board shows.
abbrev pub tells_on : List ℕ → List DeviceView → List Row → Event → ℕ → Option Seen
tells_on boards views rows (Event.Boot number time limit found seen) board = option_map (λ b. b.seen) (slice_get seen board)
tells_on boards views rows (Event.End client entry op outcome told seen) board =
    for_board (board_of_entry boards views rows entry) board seen
tells_on boards views rows (Event.Plug client device (PlugAnswer.Done seen)) board =
    for_board (board_on boards views device) board seen
tells_on boards views rows (Event.Unplug client device (PlugAnswer.Done seen)) board =
    for_board (board_on boards views device) board seen
tells_on boards views rows _ board = None

-- The trace of an entry, with one more step where it is that entry's.
abbrev pub stepped : ℕ → TraceStep → Traced → Traced
stepped entry step t = if t.entry == entry then record t { trace = with_step step t.trace } else t

-- The traces of all entries but this one.
abbrev pub without_trace : ℕ → List Traced → List Traced
without_trace entry traces = filter (λ t. not (t.entry == entry)) traces

-- The trace of an entry that is taken, where there is one.
abbrev pub taken_with : ℕ → Option Trace → List Traced
taken_with entry trace = option_to_list (option_map (λ t. record { entry = entry; trace = t }) trace)

-- The traces of the live entries after an event.
abbrev pub traces_on : Facts → List DeviceView → List Held → Event → List Traced → List Traced
traces_on facts views holds (Event.Boot number time limit found boards) traces = []
traces_on facts views holds (Event.Claim client request fetched (ClaimAnswer.Entry entry)) traces =
    traces ++ taken_with entry (traced facts views (Some request))
traces_on facts views holds (Event.Resume client entry fetched ResumeAnswer.Begun stored) traces =
    traces ++ taken_with entry (traced facts views (request_held holds client))
traces_on facts views holds (Event.End client entry op outcome told seen) traces =
    map (stepped entry (record { op = op; outcome = outcome; seen = seen })) traces
traces_on facts views holds (Event.Finish client entry state stored) traces = without_trace entry traces
traces_on facts views holds (Event.GiveBack client (Back.Entry entry)) traces = without_trace entry traces
traces_on facts views holds _ traces = traces

-- Of an entry that ends a step there were fewer than six.
abbrev pub HasPlace : Event → Traced → Type 0
HasPlace (Event.End client entry op outcome told seen) t = t.entry ≡ entry → length t.trace.steps < 6
HasPlace _ t = Unit {0}
