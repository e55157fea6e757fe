-- What the page tells of requests and their entries, as the events make it.
use Rattle.std.specs.Prelude.{ℕ, Bool, true, false, ◌==◌, ◌&&◌, not, List, [], ◌∷◌, ◌++◌, map, Option, Some, None, if◌then◌else◌}
use Rattle.std.specs.List.{list_any, fold}
use Rattle.std.specs.Str.{bytes_eq}
use Rattle.report_view.specs.declared.line.Step.{Step}
use Rattle.report_view.specs.declared.line.Step.TheVariants as steps
use Rattle.report_view.specs.declared.line.State.{State}
use Rattle.report_view.specs.declared.line.State.TheVariants as states
use Rattle.report_view.specs.declared.line.Answer.{Answer}
use Rattle.report_view.specs.declared.line.Answer.TheVariants as answers
use Rattle.report_view.specs.declared.line.Resumed.{Resumed}
use Rattle.report_view.specs.declared.line.Resumed.TheVariants as resumes
use Rattle.report_view.specs.declared.line.Kind.{Kind}
use Rattle.report_view.specs.declared.line.Kind.TheVariants as kinds
use Rattle.report_view.specs.declared.event.Event.{Event}
use Rattle.report_view.specs.declared.row.Row.{Row}
use Rattle.report_view.specs.declared.row.Standing.{Standing}
use Rattle.report_view.specs.declared.row.Standing.TheVariants as standings
use Rattle.report_view.specs.Words.{word}
use Rattle.report_view.specs.Events.{line_at}

-- ---- one row

abbrev pub standing_of : State → Standing
standing_of states.Pending = standings.Pending
standing_of states.Begun = standings.Begun
standing_of states.Success = standings.Success
standing_of states.Failed = standings.Failed
standing_of states.NeedsReboot = standings.NeedsReboot

abbrev pub is_entry : ℕ → Option ℕ → Bool
is_entry entry (Some own) = own == entry
is_entry entry None = false

-- the row is that of an entry
abbrev pub is_of : ℕ → Row → Bool
is_of entry row = is_entry entry row.entry

-- a request that was answered; an entry begins with this standing
abbrev pub answered : Standing → Answer → Row → Row
answered start answers.Hold row = record row { standing = standings.Held }
answered start (answers.Entry entry) row = record row { entry = Some entry; standing = start }
answered start answers.Kept row = record row { standing = standings.Kept }
answered start answers.Refused row = record row { standing = standings.Refused }

-- a hold that was claimed at an event
abbrev pub claimed : ℕ → Answer → Row → Row
claimed number answer row = answered standings.Begun answer (record row { claimed = Some number })

-- an entry with which the daemon went on at an event
abbrev pub resumed : ℕ → Resumed → Row → Row
resumed number resumes.Begun row = record row { claimed = Some number; standing = standings.Begun }
resumed number resumes.Failed row = record row { closed = Some number; standing = standings.Failed }
resumed number resumes.Doubted row = row

-- an entry whose step began at an event
abbrev pub step_started : ℕ → Step → Row → Row
step_started number steps.Write row = record row { began = Some number }
step_started number steps.Prepare row = row
step_started number steps.Detach row = row
step_started number steps.Attach row = row
step_started number steps.Reload row = row
step_started number steps.Cleanup row = row

-- an entry whose step ended at an event
abbrev pub step_ended : ℕ → Step → Bool → Row → Row
step_ended number steps.Write good row = record row { ended = Some number; torn = not good }
step_ended number steps.Prepare good row = row
step_ended number steps.Detach good row = row
step_ended number steps.Attach good row = row
step_ended number steps.Reload good row = row
step_ended number steps.Cleanup good row = row

-- an entry that ended at an event: its row is closed, and stands as the event says
abbrev pub finished : ℕ → State → Row → Row
finished number state row = record row { closed = Some number; standing = standing_of state }

-- an entry that was judged: its row stands as the event says
abbrev pub judged : State → Row → Row
judged state row = record row { standing = standing_of state }

-- a write that ran ends at the cut
abbrev pub write_cut : ℕ → Option ℕ → Option ℕ → Row → Row
write_cut number None ended row = row
write_cut number (Some began) (Some ended) row = row
write_cut number (Some began) None row = record row { ended = Some number; torn = true }

abbrev pub write_cut_off : ℕ → Row → Row
write_cut_off number row = write_cut number row.began row.ended row

abbrev pub begun_cut : ℕ → Option ℕ → Row → Row
begun_cut number (Some closed) row = row
begun_cut number None row = write_cut_off number (record row { closed = Some number })

abbrev pub standing_cut : ℕ → Standing → Row → Row
standing_cut number standings.Begun row = begun_cut number row.closed row
standing_cut number standings.Held row = row
standing_cut number standings.GivenBack row = row
standing_cut number standings.Refused row = row
standing_cut number standings.Kept row = row
standing_cut number standings.Pending row = row
standing_cut number standings.Success row = row
standing_cut number standings.Failed row = row
standing_cut number standings.NeedsReboot row = row

-- the power was cut: an entry that was begun and not closed ends there
abbrev pub cut_off : ℕ → Row → Row
cut_off number row = standing_cut number row.standing row

-- the line at this place told how the row stands
abbrev pub said : ℕ → Row → Row
said at row = record row { said = at }

-- ---- the row after an event

abbrev pub is_held : Standing → Bool
is_held standings.Held = true
is_held standings.Begun = false
is_held standings.GivenBack = false
is_held standings.Refused = false
is_held standings.Kept = false
is_held standings.Pending = false
is_held standings.Success = false
is_held standings.Failed = false
is_held standings.NeedsReboot = false

-- the row is the hold of this client, with the tag that this line names
abbrev pub is_hold : List (List ℕ) → ℕ → ℕ → Row → Bool
is_hold all at client row =
    is_held row.standing && (row.client == client) && bytes_eq (word 3 (line_at all row.at)) (word 3 (line_at all at))

-- the row after an event, whose line is at this place
abbrev pub row_after : List (List ℕ) → ℕ → ℕ → Kind → Row → Row
row_after all number at kinds.Cut row = cut_off number row
row_after all number at (kinds.Claim client answer) row = if is_hold all at client row then said at (claimed number answer row) else row
row_after all number at (kinds.Resume client entry told) row = if is_of entry row then said at (resumed number told row) else row
row_after all number at (kinds.Start entry step) row = if is_of entry row then step_started number step row else row
row_after all number at (kinds.End entry step good) row = if is_of entry row then step_ended number step good row else row
row_after all number at (kinds.Finish entry state) row = if is_of entry row then said at (finished number state row) else row
row_after all number at (kinds.Judge entry state) row = if is_of entry row then said at (judged state row) else row
row_after all number at (kinds.GaveBack client tagged) row =
    if tagged && is_hold all at client row then said at (record row { standing = standings.GivenBack }) else row
row_after all number at (kinds.Boot told) row = row
row_after all number at (kinds.Ask client answer) row = row
row_after all number at (kinds.Recall entry answer) row = row
row_after all number at (kinds.Schedule client answer) row = row
row_after all number at (kinds.Plug client done) row = row
row_after all number at (kinds.Unplug client done) row = row
row_after all number at (kinds.Question client) row = row

-- ---- the rows after an event

-- a row of which nothing is known but where it was told first, and of whom
abbrev pub plain_row : ℕ → ℕ → Bool → ℕ → Row
plain_row number at named client = record {
  at = at;
  named = named;
  said = at;
  client = client;
  entry = None;
  opened = number;
  claimed = None;
  began = None;
  ended = None;
  closed = None;
  torn = false;
  standing = standings.Pending;
}

-- an entry whose request isn't in the report
abbrev pub unnamed_row : ℕ → ℕ → ℕ → Row
unnamed_row number at entry = record (plain_row number at false 0) { entry = Some entry }

-- the row that an event may begin: of a request, or of an entry that no row has
abbrev pub row_begun : ℕ → ℕ → Kind → Option Row
row_begun number at (kinds.Ask client answer) = Some (answered standings.Begun answer (plain_row number at true client))
row_begun number at (kinds.Schedule client answer) = Some (answered standings.Pending answer (plain_row number at true client))
row_begun number at (kinds.Recall entry answer) = Some (unnamed_row number at entry)
row_begun number at (kinds.Resume client entry told) = Some (unnamed_row number at entry)
row_begun number at (kinds.Start entry step) = Some (unnamed_row number at entry)
row_begun number at (kinds.End entry step good) = Some (unnamed_row number at entry)
row_begun number at (kinds.Finish entry state) = Some (unnamed_row number at entry)
row_begun number at (kinds.Judge entry state) = Some (unnamed_row number at entry)
row_begun number at kinds.Cut = None
row_begun number at (kinds.Claim client answer) = None
row_begun number at (kinds.GaveBack client tagged) = None
row_begun number at (kinds.Boot told) = None
row_begun number at (kinds.Plug client done) = None
row_begun number at (kinds.Unplug client done) = None
row_begun number at (kinds.Question client) = None

abbrev pub is_listed_entry : Option ℕ → List Row → Bool
is_listed_entry None rows = false
is_listed_entry (Some entry) rows = list_any (is_of entry) rows

-- a row that names no request is of an entry that another row has
abbrev pub is_known : Row → List Row → Bool
is_known row rows = not row.named && is_listed_entry row.entry rows

abbrev pub with_row : Option Row → List Row → List Row
with_row None rows = rows
with_row (Some row) rows = if is_known row rows then rows else rows ++ row ∷ []

-- the rows after an event: one may be begun, and then each is as the event leaves it
abbrev pub rows_after : List (List ℕ) → List Row → Event → List Row
rows_after all rows event = map (row_after all event.number event.at event.kind) (with_row (row_begun event.number event.at event.kind) rows)

-- the rows that events make
abbrev pub rows_of : List (List ℕ) → List Event → List Row
rows_of all events = fold (rows_after all) [] events
