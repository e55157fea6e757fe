-- The steps of a live entry, in which state it ends, and how a row is judged.
use Rattle.std.specs.Prelude.{ℕ, Bool, true, false, ◌&&◌, ◌||◌, not, ◌==◌, nat_lt, ◌-◌, List, [], ◌∷◌, ◌++◌, Option, Some, None, if◌then◌else◌, find, length, slice_get, is_ok, unwrap_or, option_map, option_and_then}
use Rattle.std.specs.List.{list_any, list_all}
use Rattle.std.specs.Str.{bytes_eq}
use Rattle.version_formats.specs.VersionOrder.{same_version}
use Rattle.fw_facts.specs.declared.flags.DeviceFlag.{DeviceFlag}
use Rattle.fw_facts.specs.declared.seen.Seen.{Seen}
use Rattle.fw_facts.specs.declared.seen.Mode.{Mode}
use Rattle.fw_facts.specs.declared.view.DeviceView.{DeviceView}
use Rattle.fw_facts.specs.Flags.{has_flag}
use Rattle.fw_facts.specs.Views.{flags_of, is_home, version_of}
use Rattle.history_keeper.specs.declared.row.Row.{Row}
use Rattle.history_keeper.specs.declared.row.RowState.{RowState}
use Rattle.release_catalogue.specs.Lookup.{provides}
use Rattle.update_log.specs.declared.event.Event.{Event}
use Rattle.update_log.specs.declared.event.Op.{Op}
use Rattle.update_log.specs.declared.answer.ClaimAnswer.{ClaimAnswer}
use Rattle.update_log.specs.declared.answer.ResumeAnswer.{ResumeAnswer}
use Rattle.update_log.specs.declared.request.Request.{Request}
use Rattle.update_log.specs.declared.facts.Facts.{Facts}
use Rattle.update_log.specs.declared.trace.Trace.{Trace}
use Rattle.update_log.specs.declared.trace.TraceStep.{TraceStep}
use Rattle.update_log.specs.declared.live.Held.{Held}
use Rattle.update_log.specs.Holding.{holds, request_held}
use Rattle.update_log.specs.Known.{Basis, Target, target, row_of, rows, views}

-- The steps, in the order in which they are taken, and the number of each.
abbrev pub all_ops : List Op
all_ops = Op.Prepare ∷ Op.Detach ∷ Op.Write ∷ Op.Attach ∷ Op.Reload ∷ Op.Cleanup ∷ []

abbrev pub op_number : Op → ℕ
op_number Op.Prepare = 1
op_number Op.Detach = 2
op_number Op.Write = 3
op_number Op.Attach = 4
op_number Op.Reload = 5
op_number Op.Cleanup = 6

abbrev pub is_op : Op → Op → Bool
is_op a b = op_number a == op_number b

-- A step went well.
abbrev pub went_well : TraceStep → Bool
went_well step = is_ok step.outcome

-- A step of that kind has ended, or has ended well.
abbrev pub was_taken : Op → List TraceStep → Bool
was_taken op steps = list_any (λ s. is_op s.op op) steps

abbrev pub ended_well : Op → List TraceStep → Bool
ended_well op steps = list_any (λ s. is_op s.op op && went_well s) steps

-- The last step that ended, its number, and what the port showed then.
abbrev pub last_step : List TraceStep → Option TraceStep
last_step steps = slice_get steps (length steps - 1)

abbrev pub last_number : List TraceStep → ℕ
last_number steps = unwrap_or (option_map (λ s. op_number s.op) (last_step steps)) 0

abbrev pub last_seen : List TraceStep → Seen
last_seen steps = unwrap_or (option_map (λ s. s.seen) (last_step steps)) Seen.Gone

-- The board is there, and the side that it shows fits the release.
abbrev pub fits : Trace → Seen → Bool
fits t (Seen.Home raw Mode.Runtime) = t.runtime_fits
fits t (Seen.Home raw Mode.Bootloader) = t.loader_fits
fits t Seen.Gone = false
fits t Seen.Stranger = false

abbrev pub in_runtime : Mode → Bool
in_runtime Mode.Runtime = true
in_runtime Mode.Bootloader = false

-- Whether a step is wanted, when its turn comes. A detach: where prepare went well, of a device that
-- needs its boot loader and was in runtime mode. A write: where each step so far went well, and what
-- the port shows fits. An attach: where there was a detach, or the device was in bootloader mode.
abbrev pub is_wanted : Trace → Op → Bool
is_wanted t Op.Prepare = true
is_wanted t Op.Detach = ended_well Op.Prepare t.steps && has_flag DeviceFlag.NeedsBootloader t.flags && in_runtime t.mode
is_wanted t Op.Write = list_all went_well t.steps && fits t (last_seen t.steps)
is_wanted t Op.Attach = was_taken Op.Detach t.steps || not (in_runtime t.mode)
is_wanted t Op.Reload = true
is_wanted t Op.Cleanup = true

-- The step comes behind the last one, and is wanted.
abbrev pub may_be_next : Trace → Op → Bool
may_be_next t op = nat_lt (last_number t.steps) (op_number op) && is_wanted t op

-- The next step of an entry that has come so far: the first such one.
abbrev pub next_step : Trace → Option Op
next_step t = find (may_be_next t) all_ops

-- A side fits where the sheet has a GUID of it that the component provides, or that is among the
-- sheet's counterparts.
abbrev pub side_fits : List (List ℕ) → Target → Bool
side_fits side t = provides side t.chosen.component || list_any (λ guid. list_any (bytes_eq guid) side) t.view.sheet.counterparts

abbrev pub mode_of : Seen → Mode
mode_of (Seen.Home raw mode) = mode
mode_of Seen.Gone = Mode.Runtime
mode_of Seen.Stranger = Mode.Runtime

-- The trace of an entry as it is taken.
abbrev pub first_trace : Target → Trace
first_trace t =
    record {
      flags = flags_of t.view;
      mode = mode_of t.view.seen;
      runtime_fits = side_fits t.view.sheet.runtime_guids t;
      loader_fits = side_fits t.view.sheet.loader_guids t;
      steps = [];
    }

-- The trace with one more step.
abbrev pub with_step : TraceStep → Trace → Trace
with_step step t = record t { steps = t.steps ++ step ∷ [] }

-- The trace of an entry as it is taken with a request, where the devices stand like this.
abbrev pub traced : Facts → List DeviceView → Option Request → Option Trace
traced facts views request = option_and_then (λ r. option_map first_trace (target facts views r)) request

-- What an event makes of the trace of an entry, where the devices and the holds stand like this before it.
abbrev pub trace_after : Facts → List DeviceView → List Held → ℕ → Event → Option Trace → Option Trace
trace_after facts views holds entry (Event.Claim client request fetched (ClaimAnswer.Entry taken)) before =
    if taken == entry then traced facts views (Some request) else before
trace_after facts views holds entry (Event.Resume client taken fetched ResumeAnswer.Begun stored) before =
    if taken == entry then traced facts views (request_held holds client) else before
trace_after facts views holds entry (Event.End client ended op outcome told seen) before =
    if ended == entry then option_map (with_step (record { op = op; outcome = outcome; seen = seen })) before else before
trace_after facts views holds entry _ before = before

-- The trace of an entry: what was found as it was taken, and the steps that ended since.
abbrev pub trace : Basis → ℕ → List Event → Option Trace
trace basis entry [] = None
trace basis entry (event ∷ past) =
    trace_after basis.facts (views basis past) (holds past) entry event (trace basis entry past)

-- The next step of an entry. It has none once cleanup has ended.
abbrev pub next_op : Basis → List Event → ℕ → Option Op
next_op basis past entry = option_and_then next_step (trace basis entry past)

-- The judgement of a row: success where the version shown compares equal to the row's new version,
-- else failure. It looks at nothing else.
abbrev pub judge : List ℕ → Row → RowState
judge shown row = if same_version shown row.version_new then RowState.Success else RowState.Failed

-- The same of a device, where it shows a version.
abbrev pub judge_shown : Option (List ℕ) → Row → RowState
judge_shown None row = RowState.Begun
judge_shown (Some shown) row = judge shown row

-- The row waits for a boot: the device needs one, and the write went well.
abbrev pub waits_for_boot : Trace → Bool
waits_for_boot t = has_flag DeviceFlag.NeedsReboot t.flags && ended_well Op.Write t.steps

-- In which state an entry that has come so far ends: it stays begun where the reload didn't go well or
-- the board isn't there. Else it waits for a boot where it needs one, or it is judged.
abbrev pub closing_of : Trace → Row → DeviceView → RowState
closing_of t row view =
    if ended_well Op.Reload t.steps && is_home view.seen
    then (if waits_for_boot t then RowState.NeedsReboot else judge_shown (version_of view) row)
    else RowState.Begun

-- The device of a row.
abbrev pub view_of_row : List DeviceView → Row → Option DeviceView
view_of_row views row = find (λ v. bytes_eq v.sheet.device row.device) views

abbrev pub closing_at : List DeviceView → Trace → Row → Option RowState
closing_at views t row = option_map (closing_of t row) (view_of_row views row)

abbrev pub closing : Basis → List Event → ℕ → Option RowState
closing basis past entry =
    option_and_then
    (λ t. option_and_then (closing_at (views basis past) t) (row_of (rows basis past) entry))
    (trace basis entry past)
