-- Which line a text is: the words of the format, and where they stand.
use Rattle.std.specs.Prelude.{ℕ, ◌+◌, List, Bool, ◌==◌, ◌&&◌, ◌||◌, nat_eq, nat_le, codes, Option, Some, None, if◌then◌else◌, option_map, option_and_then, count_by}
use Rattle.std.specs.List.{starts_with}
use Rattle.std.specs.Str.{bytes_eq}
use Rattle.report_view.specs.declared.line.Step.{Step}
use Rattle.report_view.specs.declared.line.Step.TheVariants as steps
use Rattle.report_view.specs.declared.line.State.{State}
use Rattle.report_view.specs.declared.line.State.TheVariants as states
use Rattle.report_view.specs.declared.line.Answer.{Answer}
use Rattle.report_view.specs.declared.line.Answer.TheVariants as answers
use Rattle.report_view.specs.declared.line.Resumed.{Resumed}
use Rattle.report_view.specs.declared.line.Resumed.TheVariants as resumed
use Rattle.report_view.specs.declared.line.Kind.{Kind}
use Rattle.report_view.specs.declared.line.Kind.TheVariants as kinds
use Rattle.report_view.specs.declared.line.Line.{Line}
use Rattle.report_view.specs.declared.line.Line.TheVariants as lines
use Rattle.report_view.specs.Words.{is_blank, is, number}

-- how many blanks a line has
abbrev pub blanks : List ℕ → ℕ
blanks line = count_by is_blank line

abbrev pub step_read : ℕ → List ℕ → Option Step
step_read at line =
    if is at (codes "prepare") line then Some steps.Prepare
    else if is at (codes "detach") line then Some steps.Detach
    else if is at (codes "write") line then Some steps.Write
    else if is at (codes "attach") line then Some steps.Attach
    else if is at (codes "reload") line then Some steps.Reload
    else if is at (codes "cleanup") line then Some steps.Cleanup
    else None

abbrev pub state_read : ℕ → List ℕ → Option State
state_read at line =
    if is at (codes "pending") line then Some states.Pending
    else if is at (codes "begun") line then Some states.Begun
    else if is at (codes "success") line then Some states.Success
    else if is at (codes "failed") line then Some states.Failed
    else if is at (codes "needs-reboot") line then Some states.NeedsReboot
    else None

abbrev pub answer_read : ℕ → List ℕ → Option Answer
answer_read at line =
    if is at (codes "hold") line then Some answers.Hold
    else if is at (codes "entry") line then option_map answers.Entry (number (at + 1) line)
    else if is at (codes "kept") line then Some answers.Kept
    else if is at (codes "refused") line then Some answers.Refused
    else None

-- `boot N time T`
abbrev pub boot_read : List ℕ → Option Kind
boot_read line =
    option_and_then (λ told. option_and_then (λ time. if is 2 (codes "time") line then Some (kinds.Boot told) else None) (number 3 line)) (number 1 line)

-- where the answer to a request stands: behind its version, or behind `retry-of E` where that is there
abbrev pub answer_place : List ℕ → ℕ
answer_place line = if is 6 (codes "retry-of") line then 8 else 6

-- `client 0 ask entry E ANSWER`, or `client C ask TAG DEVICE VERSION ANSWER`, with `retry-of E` before the answer or without
abbrev pub ask_read : ℕ → List ℕ → Option Kind
ask_read client line =
    if client == 0
    then option_and_then (λ entry. option_map (λ answer. kinds.Recall entry answer) (answer_read 5 line)) (number 4 line)
    else option_map (λ answer. kinds.Ask client answer) (answer_read (answer_place line) line)

abbrev pub resumed_read : List ℕ → Option Resumed
resumed_read line =
    if is 4 (codes "begun") line then Some resumed.Begun
    else if is 4 (codes "refused") line then (if is 5 (codes "16") line then Some resumed.Doubted else Some resumed.Failed)
    else None

-- `client C resume E begun`, or `.. refused REFUSAL`
abbrev pub resume_read : ℕ → List ℕ → Option Kind
resume_read client line =
    option_and_then (λ entry. option_map (λ told. kinds.Resume client entry told) (resumed_read line)) (number 3 line)

-- `client C entry E start STEP`
abbrev pub started_read : ℕ → List ℕ → Option Kind
started_read entry line = option_map (λ step. kinds.Start entry step) (step_read 5 line)

-- `client C entry E end STEP OUTCOME SEEN ..`
abbrev pub ended_read : ℕ → List ℕ → Option Kind
ended_read entry line = option_map (λ step. kinds.End entry step (is 6 (codes "ok") line)) (step_read 5 line)

-- `client C entry E finish STATE`
abbrev pub finished_read : ℕ → List ℕ → Option Kind
finished_read entry line = option_map (λ state. kinds.Finish entry state) (state_read 5 line)

abbrev pub entry_says : ℕ → List ℕ → Option Kind
entry_says entry line =
    if is 4 (codes "start") line then started_read entry line
    else if is 4 (codes "end") line then ended_read entry line
    else if is 4 (codes "finish") line then finished_read entry line
    else None

abbrev pub entry_read : List ℕ → Option Kind
entry_read line = option_and_then (λ entry. entry_says entry line) (number 3 line)

-- `client C judge E VERSION STATE`
abbrev pub judge_read : List ℕ → Option Kind
judge_read line = option_and_then (λ entry. option_map (λ state. kinds.Judge entry state) (state_read 5 line)) (number 3 line)

abbrev pub is_question : List ℕ → Bool
is_question line =
    is 2 (codes "get-devices") line || is 2 (codes "get-releases") line || is 2 (codes "get-upgrades") line
    || is 2 (codes "get-history") line || is 2 (codes "get-results") line || is 2 (codes "settle") line

-- `client C plug DEVICE RESULT`, `.. unplug ..`, `client C gave-back TAG`, `.. pending E`, `.. entry E`, or a question
abbrev pub other_read : ℕ → List ℕ → Option Kind
other_read client line =
    if is 2 (codes "plug") line && nat_le 4 (blanks line) then Some (kinds.Plug client (is 4 (codes "done") line))
    else if is 2 (codes "unplug") line && nat_le 4 (blanks line) then Some (kinds.Unplug client (is 4 (codes "done") line))
    else if is 2 (codes "gave-back") line && nat_le 3 (blanks line) then Some (kinds.GaveBack client (blanks line == 3))
    else if is_question line then Some (kinds.Question client)
    else None

-- `client C claim TAG ANSWER`
abbrev pub claim_read : ℕ → List ℕ → Option Kind
claim_read client line = option_map (λ answer. kinds.Claim client answer) (answer_read 4 line)

-- `client C schedule TAG DEVICE VERSION ANSWER`, with `retry-of E` before the answer or without
abbrev pub schedule_read : ℕ → List ℕ → Option Kind
schedule_read client line = option_map (λ answer. kinds.Schedule client answer) (answer_read (answer_place line) line)

abbrev pub said : ℕ → List ℕ → Option Kind
said client line =
    if is 2 (codes "ask") line then ask_read client line
    else if is 2 (codes "claim") line then claim_read client line
    else if is 2 (codes "schedule") line then schedule_read client line
    else if is 2 (codes "resume") line then resume_read client line
    else if is 2 (codes "entry") line then entry_read line
    else if is 2 (codes "judge") line then judge_read line
    else other_read client line

abbrev pub client_read : List ℕ → Option Kind
client_read line = option_and_then (λ client. said client line) (number 1 line)

-- the event that a line tells, if it tells one
unfoldable pub kind_read : List ℕ → Option Kind
kind_read line =
    if bytes_eq line (codes "cut") then Some kinds.Cut
    else if is 0 (codes "boot") line then boot_read line
    else if is 0 (codes "client") line then client_read line
    else None

-- a line that belongs to the one above it: a board as it stands has its port and one or two words, any other line more or less
abbrev pub board_or_detail : List ℕ → Line
board_or_detail line =
    if is 2 (codes "board") line && (blanks line == 4 || blanks line == 5) then lines.Board else lines.Detail

abbrev pub last_by : Option ℕ → Line
last_by (Some events) = lines.Last events
last_by None = lines.Unread

-- `end N`
abbrev pub last_read : List ℕ → Line
last_read line = if blanks line == 1 then last_by (number 1 line) else lines.Unread

abbrev pub event_by : Option Kind → Line
event_by (Some kind) = lines.Event kind
event_by None = lines.Unread

-- what a line is
unfoldable pub line_read : List ℕ → Line
line_read line =
    if starts_with nat_eq line (codes "  ") then board_or_detail line
    else if bytes_eq line (codes "fwupdemu report 1") then lines.First
    else if is 0 (codes "end") line then last_read line
    else event_by (kind_read line)
