-- The mark of an event: one element of the page, with the event's number, what happened, whose it is, and its lines.
use Rattle.std.specs.Prelude.{ℕ, ◌+◌, ◌==◌, ◌%◌, Bool, true, false, List, [], ◌∷◌, ◌++◌, drop, codes, Option, Some, None, if◌then◌else◌}
use Rattle.std.specs.Fmt.{decimal}
use Rattle.report_view.specs.declared.html.TheConstants.{BOOT_LABEL, CLOSE_HEAD, CLOSE_MARK, CUT_LABEL, MARK_CLASS, MARK_PLACE, MARK_TITLE, OPEN_MARK}
use Rattle.report_view.specs.declared.line.Step.{Step}
use Rattle.report_view.specs.declared.line.Step.TheVariants as steps
use Rattle.report_view.specs.declared.line.State.{State}
use Rattle.report_view.specs.declared.line.State.TheVariants as states
use Rattle.report_view.specs.declared.line.Answer.{Answer}
use Rattle.report_view.specs.declared.line.Answer.TheVariants as answers
use Rattle.report_view.specs.declared.line.Resumed.{Resumed}
use Rattle.report_view.specs.declared.line.Resumed.TheVariants as resumes
use Rattle.report_view.specs.declared.line.Kind.{Kind}
use Rattle.report_view.specs.declared.line.Kind.TheVariants as kinds
use Rattle.report_view.specs.declared.line.Line.{Line}
use Rattle.report_view.specs.declared.line.Line.TheVariants as lines
use Rattle.report_view.specs.declared.event.Event.{Event}
use Rattle.report_view.specs.Reading.{line_read}
use Rattle.report_view.specs.Events.{line_at}
use Rattle.report_view.specs.Lanes.{client_of, entry_of}
use Rattle.report_view.specs.Pieces.{escape}

abbrev pub end_name : Bool → List ℕ
end_name true = codes "end"
end_name false = codes "fault"

-- what happened
abbrev pub mark_name : Kind → List ℕ
mark_name (kinds.Boot told) = codes "boot"
mark_name kinds.Cut = codes "cut"
mark_name (kinds.Ask client answer) = codes "ask"
mark_name (kinds.Recall entry answer) = codes "recall"
mark_name (kinds.Claim client answer) = codes "claim"
mark_name (kinds.Schedule client answer) = codes "schedule"
mark_name (kinds.Resume client entry told) = codes "resume"
mark_name (kinds.Start entry step) = codes "start"
mark_name (kinds.End entry step good) = end_name good
mark_name (kinds.Finish entry state) = codes "finish"
mark_name (kinds.Judge entry state) = codes "judge"
mark_name (kinds.Plug client done) = codes "plug"
mark_name (kinds.Unplug client done) = codes "unplug"
mark_name (kinds.GaveBack client tagged) = codes "back"
mark_name (kinds.Question client) = codes "question"

abbrev pub boot_word : ℕ → List ℕ
boot_word told = if told % 2 == 0 then codes "even" else codes "odd"

abbrev pub answer_word : Answer → List ℕ
answer_word answers.Hold = codes "yes"
answer_word (answers.Entry entry) = codes "yes"
answer_word answers.Kept = codes "kept"
answer_word answers.Refused = codes "no"

abbrev pub resumed_word : Resumed → List ℕ
resumed_word resumes.Begun = codes "yes"
resumed_word resumes.Failed = codes "no"
resumed_word resumes.Doubted = codes "no"

abbrev pub step_word : Step → List ℕ
step_word steps.Prepare = codes "prepare"
step_word steps.Detach = codes "detach"
step_word steps.Write = codes "write"
step_word steps.Attach = codes "attach"
step_word steps.Reload = codes "reload"
step_word steps.Cleanup = codes "cleanup"

abbrev pub state_word : State → List ℕ
state_word states.Pending = codes "pending"
state_word states.Begun = codes "begun"
state_word states.Success = codes "success"
state_word states.Failed = codes "failed"
state_word states.NeedsReboot = codes "needs-reboot"

abbrev pub done_word : Bool → List ℕ
done_word done = if done then codes "yes" else codes "no"

-- how it went
abbrev pub grade : Kind → List ℕ
grade (kinds.Boot told) = boot_word told
grade (kinds.Ask client answer) = answer_word answer
grade (kinds.Recall entry answer) = answer_word answer
grade (kinds.Claim client answer) = answer_word answer
grade (kinds.Schedule client answer) = answer_word answer
grade (kinds.Resume client entry told) = resumed_word told
grade (kinds.Start entry step) = step_word step
grade (kinds.End entry step good) = step_word step
grade (kinds.Finish entry state) = state_word state
grade (kinds.Judge entry state) = state_word state
grade (kinds.Plug client done) = done_word done
grade (kinds.Unplug client done) = done_word done
grade kinds.Cut = codes "yes"
grade (kinds.GaveBack client tagged) = codes "yes"
grade (kinds.Question client) = codes "yes"

abbrev pub lane_of_entry : Option ℕ → List ℕ
lane_of_entry (Some entry) = codes " n" ++ decimal entry
lane_of_entry None = []

-- the class of its lane: that of a client, or of an entry
abbrev pub lane : Option ℕ → Option ℕ → List ℕ
lane (Some client) entry = codes " c" ++ decimal client
lane None entry = lane_of_entry entry

-- the number of an event, and its place
unfoldable pub mark_place : ℕ → List ℕ
mark_place number = OPEN_MARK.now ++ decimal number ++ MARK_PLACE.now ++ decimal number

-- what happened, and how it went
unfoldable pub mark_class : Kind → List ℕ
mark_class kind = MARK_CLASS.now ++ mark_name kind ++ codes " " ++ grade kind

unfoldable pub mark_head : Event → List ℕ
mark_head event = mark_place event.number ++ mark_class event.kind ++ lane (client_of event.kind) (entry_of event.kind)

-- a line that belongs to the one above it
abbrev pub belongs : Line → Bool
belongs lines.Board = true
belongs lines.Detail = true
belongs lines.First = false
belongs (lines.Last told) = false
belongs (lines.Event kind) = false
belongs lines.Unread = false

abbrev pub detail : List ℕ → List ℕ
detail line = codes "\n" ++ escape line

-- the lines that belong to an event, of those behind it
unfoldable pub details : List (List ℕ) → List ℕ
details [] = []
details (line ∷ later) = if belongs (line_read line) then detail line ++ details later else []

abbrev pub label : Kind → List ℕ
label (kinds.Boot told) = BOOT_LABEL.now ++ decimal told ++ codes "</b>"
label kinds.Cut = CUT_LABEL.now
label (kinds.Ask client answer) = []
label (kinds.Recall entry answer) = []
label (kinds.Claim client answer) = []
label (kinds.Schedule client answer) = []
label (kinds.Resume client entry told) = []
label (kinds.Start entry step) = []
label (kinds.End entry step good) = []
label (kinds.Finish entry state) = []
label (kinds.Judge entry state) = []
label (kinds.Plug client done) = []
label (kinds.Unplug client done) = []
label (kinds.GaveBack client tagged) = []
label (kinds.Question client) = []

unfoldable pub mark : List (List ℕ) → Event → List ℕ
mark all event =
    mark_head event ++ MARK_TITLE.now ++ escape (line_at all event.at) ++ details (drop (event.at + 1) all)
    ++ CLOSE_HEAD.now ++ label event.kind ++ CLOSE_MARK.now
