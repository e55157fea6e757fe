-- Which events may come after a past, and so which logs are legal.
use Rattle.std.specs.Prelude.{◌≡◌, ◌≢◌, ◌⊎◌, ℕ, Bool, true, false, ◌&&◌, not, ◌==◌, ◌<◌, ◌+◌, ◌/◌, ◌%◌, IsTrue, MatchBool, List, [], ◌∷◌, length, Option, Some, None, Result, Ok, IfSome, if◌then◌else◌, find, slice_get, unwrap_or, option_map, option_and_then}
use Rattle.std.specs.List.{list_any}
use Rattle.std.specs.Str.{bytes_eq}
use Rattle.fw_facts.specs.declared.seen.Seen.{Seen}
use Rattle.fw_facts.specs.declared.view.DeviceView.{DeviceView}
use Rattle.fw_facts.specs.Views.{is_home, version_of}
use Rattle.emulated_boards.specs.declared.mark.Mark.{Mark}
use Rattle.emulated_boards.specs.declared.fault.BoardFault.{BoardFault}
use Rattle.device_list.specs.declared.selector.Selector.{Selector}
use Rattle.device_list.specs.Lists.{place}
use Rattle.history_keeper.specs.declared.row.Row.{Row}
use Rattle.history_keeper.specs.declared.row.RowState.{RowState}
use Rattle.history_keeper.specs.declared.change.Change.{Change}
use Rattle.update_log.specs.declared.event.Event.{Event}
use Rattle.update_log.specs.declared.event.Op.{Op}
use Rattle.update_log.specs.declared.event.Found.{Found}
use Rattle.update_log.specs.declared.event.Stored.{Stored}
use Rattle.update_log.specs.declared.event.Back.{Back}
use Rattle.update_log.specs.declared.event.Query.{Query}
use Rattle.update_log.specs.declared.event.BoardSeen.{BoardSeen}
use Rattle.update_log.specs.declared.answer.AskAnswer.{AskAnswer}
use Rattle.update_log.specs.declared.answer.ClaimAnswer.{ClaimAnswer}
use Rattle.update_log.specs.declared.answer.ResumeAnswer.{ResumeAnswer}
use Rattle.update_log.specs.declared.answer.PlugAnswer.{PlugAnswer}
use Rattle.update_log.specs.declared.refusal.FetchNote.{FetchNote}
use Rattle.update_log.specs.declared.refusal.Refusal.{Refusal}
use Rattle.update_log.specs.declared.request.Request.{Request}
use Rattle.update_log.specs.declared.request.InstallFlags.{InstallFlags}
use Rattle.update_log.specs.declared.facts.BootPlan.{BootPlan}
use Rattle.update_log.specs.declared.decision.Decision.{Decision}
use Rattle.update_log.specs.declared.decision.Stage.{Stage}
use Rattle.update_log.specs.declared.live.LiveEntry.{LiveEntry}
use Rattle.update_log.specs.declared.live.Held.{Held}
use Rattle.update_log.specs.declared.live.OpenStep.{OpenStep}
use Rattle.release_catalogue.specs.Lookup.{Chosen}
use Rattle.update_log.specs.Pasts.{past_of, is_boot, is_counted, boots, counted, limit_of, off, last_of, finished}
use Rattle.update_log.specs.Holding.{live, live_entry, is_live, hold, open_steps, step_open}
use Rattle.update_log.specs.Known.{Basis, Target, target, row_of, is_board_of, board_found, known, rows, doubt, views}
use Rattle.update_log.specs.Verdicts.{verdict}
use Rattle.update_log.specs.Steps.{next_op, judge, closing, view_of_row}
use Rattle.update_log.specs.Shows.{Campaign, campaign_on, marks, digest_of, IsPrefix, EndShows, FreshShows}

-- The step that is open on a board.
abbrev pub open_on : Basis → List Event → ℕ → Option OpenStep
open_on basis past board = find (λ s. is_board_of basis.facts (rows basis past) s.entry board) (open_steps past)

-- Its marks, and none where no step is open.
abbrev pub open_marks : Basis → List Event → ℕ → List Mark
open_marks basis past board =
    unwrap_or
    (option_map (λ s. marks s.op s.entry (digest_of (rows basis past) s.entry)) (open_on basis past board))
    []

-- Boot.

-- What a boot may find of the change in doubt: nothing special where there is none, that it was made
-- or wasn't where there is one, and a fault in either case.
abbrev pub FoundAllowed : Found → Option Change → Type 0
FoundAllowed Found.Plain None = Unit {0}
FoundAllowed Found.Plain (Some change) = ⊥
FoundAllowed Found.Kept (Some change) = Unit {0}
FoundAllowed Found.Kept None = ⊥
FoundAllowed Found.Lost (Some change) = Unit {0}
FoundAllowed Found.Lost None = ⊥
FoundAllowed Found.Fault doubt = Unit {0}

abbrev pub is_gone : Seen → Bool
is_gone (Seen.Home raw mode) = false
is_gone Seen.Gone = true
is_gone Seen.Stranger = false

abbrev pub is_absent : BootPlan → ℕ → Bool
is_absent plan board = list_any (λ a. a == board) plan.absent

-- A boot lists a board under its number: gone where the plan says so, else home. Its untold marks
-- begin those of the step that was open on it, and what it shows is allowed.
pub record BoardListed (basis : Basis) (first : List Seen) (past : List Event) (plan : BootPlan) (board : ℕ) (b : BoardSeen) : Type 0 where
  pub number : b.board ≡ board
  pub presence : IsTrue (if is_absent plan board then is_gone b.seen else is_home b.seen)
  pub untold : IsPrefix b.untold (open_marks basis past board)
  pub shown : FreshShows basis first past board b.untold b.seen

-- A boot is the next one, of the next plan, and lists each board.
pub record BootAllowed (c : Campaign) (past : List Event) (number time : ℕ) (limit : Option ℕ) (found : Found) (boards : List BoardSeen) (plan : BootPlan) : Type 0 where
  pub number_is : number ≡ boots past + 1
  pub planned : slice_get c.plans (boots past) ≡ Some plan
  pub time_is : time ≡ plan.time
  pub limit_is : limit ≡ plan.limit
  pub count : length boards ≡ length c.basis.facts.sheets
  pub listed : (board : ℕ) (b : BoardSeen) → slice_get boards board ≡ Some b → BoardListed c.basis c.first past plan board b
  pub found_is : FoundAllowed found (doubt c.basis past)

-- Ask.

-- The client has no hold and no live entry.
pub record IsFree (past : List Event) (client : ℕ) : Type 0 where
  pub hold : hold past client ≡ None
  pub live : list_any (λ l. l.client == client) (live past) ≡ false

-- Of a row's flags the binary digits 1, 2 and 4 count.
abbrev pub has_digit : ℕ → ℕ → Bool
has_digit digit number = number / digit % 2 == 1

abbrev pub flags_of_number : ℕ → InstallFlags
flags_of_number number =
    record { offline = has_digit 1 number; allow_reinstall = has_digit 2 number; allow_older = has_digit 4 number }

-- The request that a pending row makes: its tag, device, version and flags, and the row that it tries again.
abbrev pub request_of_row : Row → Request
request_of_row row =
    record {
      tag = row.tag;
      device = Selector.Id row.device;
      version = row.version_new;
      flags = flags_of_number row.flags;
      retry_of = row.retry_of;
    }

-- An ask for a pending row is the daemon's own, and is of the row's request.
pub record PendingAllowed (basis : Basis) (past : List Event) (client : ℕ) (request : Request) (entry : ℕ) (row : Row) : Type 0 where
  pub client_is : client ≡ 0
  pub row_is : row_of (rows basis past) entry ≡ Some row
  pub pending : row.state ≡ RowState.Pending
  pub request_is : request ≡ request_of_row row

abbrev pub ask_stage : Option ℕ → Stage
ask_stage None = Stage.Ask
ask_stage (Some entry) = Stage.AskPending entry

-- The answer to an ask on which that was decided.
abbrev pub ask_answer : Decision → AskAnswer
ask_answer (Decision.Accept device release blocks) = AskAnswer.Hold blocks release
ask_answer (Decision.Kept entry state) = AskAnswer.Kept entry state
ask_answer (Decision.Refused refusal) = AskAnswer.Refused refusal

-- A client that is free may ask, and is answered by the verdict.
pub record AskAllowed (basis : Basis) (past : List Event) (client : ℕ) (request : Request) (pending : Option ℕ) (answer : AskAnswer) : Type 0 where
  pub free : IsFree past client
  pub pending_is : IfSome pending (λ entry. (row : Row) × PendingAllowed basis past client request entry row)
  pub answer_is : answer ≡ ask_answer (verdict basis past client request (ask_stage pending))

-- Claim.

-- The payload that was fetched has the digest and the size of that release.
abbrev pub is_whole : FetchNote → Chosen → Bool
is_whole (FetchNote.Whole digest len raw) c = bytes_eq digest c.release.digest && (len == c.release.size)
is_whole FetchNote.Missing c = false
is_whole (FetchNote.Length found) c = false
is_whole (FetchNote.Mismatch found) c = false
is_whole FetchNote.ShelfFault c = false

abbrev pub is_fetched : FetchNote → Option Target → Bool
is_fetched note None = false
is_fetched note (Some t) = is_whole note t.chosen

-- The entry that the next row gets.
abbrev pub next_entry : Basis → List Event → ℕ
next_entry basis past = length (rows basis past) + 1

-- The answers that a claim may get, where that was decided and this was fetched: what was decided, if
-- it isn't to accept; else, where the payload isn't the release's, that; and where it is, the next
-- entry, or that the history couldn't be written.
abbrev pub ClaimAnswered : FetchNote → Option Target → ℕ → Decision → ClaimAnswer → Type 0
ClaimAnswered fetched t next (Decision.Kept entry state) answer = answer ≡ ClaimAnswer.Kept entry state
ClaimAnswered fetched t next (Decision.Refused refusal) answer = answer ≡ ClaimAnswer.Refused refusal
ClaimAnswered fetched t next (Decision.Accept device release blocks) answer =
    MatchBool (is_fetched fetched t)
    ((answer ≡ ClaimAnswer.Entry next) ⊎ (answer ≡ ClaimAnswer.Refused Refusal.KeeperFault))
    (answer ≡ ClaimAnswer.Refused (Refusal.Payload fetched))

-- A client claims the request of its hold, which isn't a pending row's.
pub record ClaimAllowed (basis : Basis) (past : List Event) (client : ℕ) (request : Request) (fetched : FetchNote) (answer : ClaimAnswer) (held : Held) : Type 0 where
  pub held_is : hold past client ≡ Some held
  pub request_is : held.request ≡ request
  pub pending : held.pending ≡ None
  pub answer_is : ClaimAnswered fetched (target basis.facts (views basis past) request) (next_entry basis past) (verdict basis past client request (Stage.Claim held.release)) answer

-- Schedule.

-- The answers that a schedule may get, where that was decided.
abbrev pub ScheduleAnswered : ℕ → Decision → ClaimAnswer → Type 0
ScheduleAnswered next (Decision.Kept entry state) answer = answer ≡ ClaimAnswer.Kept entry state
ScheduleAnswered next (Decision.Refused refusal) answer = answer ≡ ClaimAnswer.Refused refusal
ScheduleAnswered next (Decision.Accept device release blocks) answer =
    (answer ≡ ClaimAnswer.Entry next) ⊎ (answer ≡ ClaimAnswer.Refused Refusal.KeeperFault)

-- A client that is free may put a request off.
pub record ScheduleAllowed (basis : Basis) (past : List Event) (client : ℕ) (request : Request) (answer : ClaimAnswer) : Type 0 where
  pub free : IsFree past client
  pub answer_is : ScheduleAnswered (next_entry basis past) (verdict basis past client request Stage.Schedule) answer

-- Resume.

-- The answers that a resumption with its hold may get. Its row's tag is never answered as kept.
abbrev pub ResumeAnswered : FetchNote → Option Target → Decision → ResumeAnswer → Type 0
ResumeAnswered fetched t (Decision.Kept entry state) answer = ⊥
ResumeAnswered fetched t (Decision.Refused refusal) answer = answer ≡ ResumeAnswer.Refused refusal
ResumeAnswered fetched t (Decision.Accept device release blocks) answer =
    MatchBool (is_fetched fetched t)
    ((answer ≡ ResumeAnswer.Begun) ⊎ (answer ≡ ResumeAnswer.Refused Refusal.KeeperFault))
    (answer ≡ ResumeAnswer.Refused (Refusal.Payload fetched))

-- What is stored with the answer: a begin is, refusal 16 is a fault, and any other refusal is stored
-- or meets one.
abbrev pub ResumeStored : ResumeAnswer → Stored → Type 0
ResumeStored ResumeAnswer.Begun stored = stored ≡ Stored.Yes
ResumeStored (ResumeAnswer.Refused Refusal.KeeperFault) stored = stored ≡ Stored.Fault
ResumeStored (ResumeAnswer.Refused refusal) stored = (stored ≡ Stored.Yes) ⊎ (stored ≡ Stored.Fault)

-- The event is the ask for that row that was refused with the answer.
abbrev pub IsRefusedAsk : ℕ → ResumeAnswer → Event → Type 0
IsRefusedAsk entry (ResumeAnswer.Refused refusal) (Event.Ask client request pending (AskAnswer.Refused given)) =
    (pending ≡ Some entry) × (given ≡ refusal)
IsRefusedAsk entry _ _ = ⊥

-- With a payload the daemon's hold is of that row, and the answer is the verdict's on the hold's
-- request. Without one the daemon's last event in this boot is the refused ask of the row, and the
-- refusal is repeated.
abbrev pub ResumeFetched : Basis → List Event → ℕ → Option FetchNote → ResumeAnswer → Type 0
ResumeFetched basis past entry (Some note) answer =
    (held : Held) × (hold past 0 ≡ Some held) × (held.pending ≡ Some entry)
    × ResumeAnswered note (target basis.facts (views basis past) held.request) (verdict basis past 0 held.request (Stage.Resume entry held.release)) answer
ResumeFetched basis past entry None answer =
    (event : Event) × (last_of 0 past ≡ Some event) × IsRefusedAsk entry answer event

-- The daemon itself resumes a pending row.
pub record ResumeAllowed (basis : Basis) (past : List Event) (client entry : ℕ) (fetched : Option FetchNote) (answer : ResumeAnswer) (stored : Stored) (row : Row) : Type 0 where
  pub client_is : client ≡ 0
  pub row_is : row_of (rows basis past) entry ≡ Some row
  pub pending : row.state ≡ RowState.Pending
  pub fetched_is : ResumeFetched basis past entry fetched answer
  pub stored_is : ResumeStored answer stored

-- Start and end.

-- A client starts the next step of its live entry, of which none is open.
pub record StartAllowed (basis : Basis) (past : List Event) (client entry : ℕ) (op : Op) (l : LiveEntry) : Type 0 where
  pub live : live_entry past entry ≡ Some l
  pub client_is : l.client ≡ client
  pub closed : step_open past entry ≡ None
  pub next : next_op basis past entry ≡ Some op

-- A write that went well tells all its marks.
abbrev pub ToldWhole : Op → Result (Unit {0}) BoardFault → List Mark → List Mark → Type 0
ToldWhole Op.Write (Ok unit) told all = told ≡ all
ToldWhole _ _ told all = Unit {0}

-- A client ends the step that it has open. It tells marks that begin the step's, and what it shows of
-- the board is allowed.
pub record EndAllowed (basis : Basis) (first : List Seen) (past : List Event) (client entry : ℕ) (op : Op) (outcome : Result (Unit {0}) BoardFault) (told : List Mark) (shown : Seen) : Type 0 where
  pub open_is : step_open past entry ≡ Some (record { client = client; entry = entry; op = op })
  pub told_is : IsPrefix told (marks op entry (digest_of (rows basis past) entry))
  pub whole : ToldWhole op outcome told (marks op entry (digest_of (rows basis past) entry))
  pub shows : (board : ℕ) → IsTrue (is_board_of basis.facts (rows basis past) entry board) → EndShows basis first past board told outcome shown

-- Finish.

-- Under want of memory the row stays begun.
abbrev pub closing_stored : RowState → Stored → RowState
closing_stored closed Stored.Yes = closed
closing_stored closed Stored.Fault = closed
closing_stored closed Stored.NoMemory = RowState.Begun
closing_stored closed Stored.Unchanged = closed

-- Nothing is stored exactly where the row is to stay begun.
abbrev pub UnchangedExactly : RowState → Stored → Type 0
UnchangedExactly RowState.Begun stored = stored ≡ Stored.Unchanged
UnchangedExactly RowState.Pending stored = stored ≢ Stored.Unchanged
UnchangedExactly RowState.Success stored = stored ≢ Stored.Unchanged
UnchangedExactly RowState.Failed stored = stored ≢ Stored.Unchanged
UnchangedExactly RowState.NeedsReboot stored = stored ≢ Stored.Unchanged

-- A client finishes its live entry, which has no next step, in the state in which it ends.
pub record FinishAllowed (basis : Basis) (past : List Event) (client entry : ℕ) (state : RowState) (stored : Stored) (l : LiveEntry) (closed : RowState) : Type 0 where
  pub live : live_entry past entry ≡ Some l
  pub client_is : l.client ≡ client
  pub open_none : step_open past entry ≡ None
  pub done : next_op basis past entry ≡ None
  pub closing : closing basis past entry ≡ Some closed
  pub state_is : state ≡ closing_stored closed stored
  pub unchanged : UnchangedExactly closed stored

-- Judge.

-- The row can be judged: it is begun and not live, or it waits for a boot and wasn't finished in this
-- one.
abbrev pub may_judge : List Event → RowState → ℕ → Bool
may_judge past RowState.Begun entry = not (is_live (live past) entry)
may_judge past RowState.NeedsReboot entry = not (finished entry past)
may_judge past RowState.Pending entry = false
may_judge past RowState.Success entry = false
may_judge past RowState.Failed entry = false

-- A judgement of such a row, whose device is home, by the version that the device shows.
pub record JudgeAllowed (basis : Basis) (past : List Event) (entry : ℕ) (version : List ℕ) (state : RowState) (stored : Stored) (row : Row) (view : DeviceView) : Type 0 where
  pub row_is : row_of (rows basis past) entry ≡ Some row
  pub waits : IsTrue (may_judge past row.state entry)
  pub device : view_of_row (views basis past) row ≡ Some view
  pub home : IsTrue (is_home view.seen)
  pub version_is : version_of view ≡ Some version
  pub state_is : state ≡ judge version row
  pub stored_is : (stored ≡ Stored.Yes) ⊎ (stored ≡ Stored.Fault)

-- Query.

-- The device of a selector.
abbrev pub found_view : List DeviceView → Selector → Option DeviceView
found_view views selector = option_and_then (slice_get views) (place selector views)

-- The row is of that device and can be judged now.
abbrev pub can_judge : List Event → DeviceView → Row → Bool
can_judge past view row = bytes_eq view.sheet.device row.device && is_home view.seen && may_judge past row.state row.entry

-- A question may always be asked, but to settle a device only where no row of it can be judged.
abbrev pub QueryAllowed : Basis → List Event → Query → Type 0
QueryAllowed basis past (Query.Settle selector) =
    IfSome (found_view (views basis past) selector) (λ view. list_any (can_judge past view) (rows basis past) ≡ false)
QueryAllowed basis past Query.Devices = Unit {0}
QueryAllowed basis past (Query.Releases selector) = Unit {0}
QueryAllowed basis past (Query.Upgrades selector) = Unit {0}
QueryAllowed basis past Query.History = Unit {0}
QueryAllowed basis past (Query.Results selector) = Unit {0}

-- Unplug and plug.

-- Why a device isn't unplugged: there is none, or it is being updated, or it isn't there.
abbrev pub unplug_refused : Option DeviceView → Option PlugAnswer
unplug_refused None = Some PlugAnswer.NoDevice
unplug_refused (Some view) =
    unwrap_or (option_map (λ entry. Some (PlugAnswer.Busy entry)) view.claim)
    (if is_home view.seen then None else Some PlugAnswer.NotThere)

-- Why it isn't plugged: there is none, or it is being updated, or it is there already.
abbrev pub plug_refused : Option DeviceView → Option PlugAnswer
plug_refused None = Some PlugAnswer.NoDevice
plug_refused (Some view) =
    unwrap_or (option_map (λ entry. Some (PlugAnswer.Busy entry)) view.claim)
    (if is_home view.seen then Some PlugAnswer.AlreadyThere else None)

-- The answer is that one, or it is done and shows what it may.
abbrev pub PlugAnswered : Option PlugAnswer → (Seen → Type 0) → PlugAnswer → Type 0
PlugAnswered (Some refused) Shows answer = answer ≡ refused
PlugAnswered None Shows (PlugAnswer.Done seen) = Shows seen
PlugAnswered None Shows PlugAnswer.NoDevice = ⊥
PlugAnswered None Shows (PlugAnswer.Busy entry) = ⊥
PlugAnswered None Shows PlugAnswer.NotThere = ⊥
PlugAnswered None Shows PlugAnswer.AlreadyThere = ⊥

-- An unplug that is done shows that the board is gone.
abbrev pub UnplugAllowed : Basis → List Event → Selector → PlugAnswer → Type 0
UnplugAllowed basis past selector answer =
    PlugAnswered (unplug_refused (found_view (views basis past) selector)) (λ seen. seen ≡ Seen.Gone) answer

-- A plug that is done shows the board at home, with what it may show then.
pub record PlugShows (basis : Basis) (first : List Seen) (past : List Event) (selector : Selector) (shown : Seen) : Type 0 where
  pub home : IsTrue (is_home shown)
  pub fresh : (board : ℕ) → board_found basis.facts (live past) (known basis past) selector ≡ Some board → FreshShows basis first past board [] shown

abbrev pub PlugAllowed : Basis → List Seen → List Event → Selector → PlugAnswer → Type 0
PlugAllowed basis first past selector answer =
    PlugAnswered (plug_refused (found_view (views basis past) selector)) (PlugShows basis first past selector) answer

-- Give back.

-- A client gives back its hold, or in a boot that is off its live entry.
abbrev pub BackAllowed : List Event → ℕ → Back → Type 0
BackAllowed past client (Back.Tag tag) =
    (held : Held) × (hold past client ≡ Some held) × (held.pending ≡ None) × (held.request.tag ≡ tag)
BackAllowed past client (Back.Pending entry) =
    (held : Held) × (hold past client ≡ Some held) × (held.pending ≡ Some entry)
BackAllowed past client (Back.Entry entry) =
    (l : LiveEntry) × (live_entry past entry ≡ Some l) × (l.client ≡ client) × (off past ≡ true)

-- Cut.

-- The power is cut in a boot that isn't off, when its counted events are as many as its limit.
pub record CutAllowed (past : List Event) : Type 0 where
  pub on : off past ≡ false
  pub full : limit_of past ≡ Some (counted past)

-- All.

-- The event may come after the past, as its kind wants it.
abbrev pub Allowed : Campaign → List Event → Event → Type 0
Allowed c past (Event.Boot number time limit found boards) =
    (plan : BootPlan) × BootAllowed c past number time limit found boards plan
Allowed c past (Event.Query client query) = QueryAllowed c.basis past query
Allowed c past (Event.Ask client request pending answer) =
    AskAllowed c.basis past client request pending answer
Allowed c past (Event.Claim client request fetched answer) =
    (held : Held) × ClaimAllowed c.basis past client request fetched answer held
Allowed c past (Event.Schedule client request answer) =
    ScheduleAllowed c.basis past client request answer
Allowed c past (Event.Resume client entry fetched answer stored) =
    (row : Row) × ResumeAllowed c.basis past client entry fetched answer stored row
Allowed c past (Event.Start client entry op) =
    (l : LiveEntry) × StartAllowed c.basis past client entry op l
Allowed c past (Event.End client entry op outcome told seen) =
    EndAllowed c.basis c.first past client entry op outcome told seen
Allowed c past (Event.Finish client entry state stored) =
    (l : LiveEntry) × (closed : RowState) × FinishAllowed c.basis past client entry state stored l closed
Allowed c past (Event.Judge client entry version state stored) =
    (row : Row) × (view : DeviceView) × JudgeAllowed c.basis past entry version state stored row view
Allowed c past (Event.Unplug client device answer) = UnplugAllowed c.basis past device answer
Allowed c past (Event.Plug client device answer) = PlugAllowed c.basis c.first past device answer
Allowed c past (Event.GiveBack client what) = BackAllowed past client what
Allowed c past Event.Cut = CutAllowed past

-- Fewer events of this boot than its limit are counted, where it has one.
abbrev pub BelowLimit : List Event → Type 0
BelowLimit past = IfSome (limit_of past) (λ limit. counted past < limit)

-- What every event wants of the boot that runs: all but a boot that there is one, and all that a limit
-- counts that it isn't off and is below its limit.
pub record BootTakes (past : List Event) (event : Event) : Type 0 where
  pub booted : is_boot event ≡ false → 0 < boots past
  pub on : is_counted event ≡ true → off past ≡ false
  pub below : is_counted event ≡ true → BelowLimit past

-- Each event of a past is allowed by the past before it.
abbrev pub IsLegal : Campaign → List Event → Type 0
IsLegal c [] = Unit {0}
IsLegal c (event ∷ past) = IsLegal c past × BootTakes past event × Allowed c past event

-- A log is legal, over the rows before it.
abbrev pub Legal : Campaign → List Event → Type 0
Legal c log = IsLegal c (past_of log)

-- What every event wants of the boot that runs, its limit aside.
pub record BootRuns (past : List Event) (event : Event) : Type 0 where
  pub booted : is_boot event ≡ false → 0 < boots past
  pub on : is_counted event ≡ true → off past ≡ false

-- Each event of a past is allowed by the past before it, in a boot that may run on beyond its limit. So the
-- past is legal, or would be if those boots had no limit.
abbrev pub IsLegalUnlimited : Campaign → List Event → Type 0
IsLegalUnlimited c [] = Unit {0}
IsLegalUnlimited c (event ∷ past) = IsLegalUnlimited c past × BootRuns past event × Allowed c past event

-- The log with the event is legal in some campaign over this basis, or would be if its boots had no limit.
abbrev pub IsNext : Basis → List Event → Event → Type 0
IsNext basis past event =
    (first : List Seen) × (plans : List BootPlan) × IsLegalUnlimited (campaign_on basis first plans) (event ∷ past)
