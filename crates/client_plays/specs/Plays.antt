-- Of which events a play is.
--
-- A play is all that one item of a client's script does, or one thing that the daemon does by itself
-- as a boot begins. It is told of the client's own events, the oldest first, each with the past before
-- it; what other clients do between them is no part of it.
use Rattle.std.specs.Prelude.{◌≡◌, ◌⊎◌, ℕ, Bool, true, ◌&&◌, ◌==◌, MatchBool, List, [], ◌∷◌, ◌++◌, Option, Some, None, Result}
use Rattle.std.specs.List.{list_any}
use Rattle.std.specs.Str.{bytes_eq}
use Rattle.block_pool.specs.Views.{SealedBytes}
use Rattle.fw_facts.specs.declared.view.DeviceView.{DeviceView}
use Rattle.emulated_boards.specs.Boards.{BoardState}
use Rattle.emulated_boards.specs.Conditions.{view_of}
use Rattle.emulated_boards.specs.declared.fault.BoardFault.{BoardFault}
use Rattle.emulated_boards.specs.declared.mark.Mark.{Mark}
use Rattle.device_list.specs.declared.selector.Selector.{Selector}
use Rattle.plugin_trait.specs.Steps.{PluginSteps}
use Rattle.release_catalogue.specs.declared.reference.ReleaseRef.{ReleaseRef}
use Rattle.history_keeper.specs.declared.row.Row.{Row}
use Rattle.history_keeper.specs.declared.row.RowState.{RowState}
use Rattle.update_log.specs.declared.event.Event.{Event}
use Rattle.update_log.specs.declared.event.Op.{Op}
use Rattle.update_log.specs.declared.event.Back.{Back}
use Rattle.update_log.specs.declared.event.Query.{Query}
use Rattle.update_log.specs.declared.event.Stored.{Stored}
use Rattle.update_log.specs.declared.answer.AskAnswer.{AskAnswer}
use Rattle.update_log.specs.declared.answer.ClaimAnswer.{ClaimAnswer}
use Rattle.update_log.specs.declared.answer.PlugAnswer.{PlugAnswer}
use Rattle.update_log.specs.declared.answer.ResumeAnswer.{ResumeAnswer}
use Rattle.update_log.specs.declared.refusal.FetchNote.{FetchNote}
use Rattle.update_log.specs.declared.request.Request.{Request}
use Rattle.update_log.specs.declared.facts.Facts.{Facts}
use Rattle.update_log.specs.Known.{Basis, board_of, rows, seen, views}
use Rattle.update_log.specs.Legal.{found_view}
use Rattle.update_log.specs.Shows.{digest_of}
use Rattle.daemon_core.specs.Claims.{IsServedBy}
use Rattle.device_claims.specs.Claims.{StepGives}
use Rattle.client_scripts.specs.declared.item.Item.{Item}
use Rattle.client_plays.specs.Moments.{Moment, behind}
use Rattle.client_plays.specs.Shelves.{IsFetched}
use Rattle.client_plays.specs.Tools.{Files, Means}

-- There is one event, of which this holds.
abbrev pub Alone : (Moment → Type 0) → List Moment → Type 0
Alone Fact [] = ⊥
Alone Fact (m ∷ []) = Fact m
Alone Fact (m ∷ n ∷ moments) = ⊥

-- What an entry's update does.

-- A step of an entry was started, and ended next. The plugin made it of the board as it was, with that payload,
-- and its end shows the board as it is.
pub record StepPlays (steps : PluginSteps) (client entry : ℕ) (payload : SealedBytes) (was is : BoardState) (started ended : Event) : Type 0 where
  pub op : Op
  pub outcome : Result (Unit {0}) BoardFault
  pub told : List Mark
  pub started_is : started ≡ Event.Start client entry op
  pub ended_is : ended ≡ Event.End client entry op outcome told (view_of is.condition)
  pub made : StepGives steps op entry payload was outcome is

-- The entry was finished.
abbrev pub FinishPlays : ℕ → ℕ → Event → Type 0
FinishPlays client entry event = (state : RowState) × (stored : Stored) × (event ≡ Event.Finish client entry state stored)

-- The steps of an entry, one after the other, and its finish. Each step takes the board as the one before left
-- it.
abbrev pub StepsPlay : PluginSteps → ℕ → ℕ → SealedBytes → BoardState → List Moment → Type 0
StepsPlay steps client entry payload board [] = ⊥
StepsPlay steps client entry payload board (m ∷ []) = FinishPlays client entry m.event
StepsPlay steps client entry payload board (m ∷ n ∷ moments) =
    (next : BoardState) × StepPlays steps client entry payload board next m.event n.event × StepsPlay steps client entry payload next moments

-- By this past the plugin of an entry's board stands at this place among the enabled ones.
pub record IsOwnPlugin (basis : Basis) (past : List Event) (entry place : ℕ) : Type 0 where
  pub number : ℕ
  pub board_is : board_of basis.facts (rows basis past) entry ≡ Some number
  pub served : IsServedBy basis.facts number place

-- The update of an entry, by the past as it was taken. The plugin of its board made each step: of a board that
-- shows what the log saw of it last, with a payload that has the digest of the entry's row.
pub record UpdatePlays (basis : Basis) (plugins : ℕ → PluginSteps) (client entry : ℕ) (taken : List Event) (moments : List Moment) : Type 0 where
  pub place : ℕ
  pub own : IsOwnPlugin basis taken entry place
  pub board : BoardState
  pub shown : view_of board.condition ≡ seen basis taken own.number
  pub payload : SealedBytes
  pub digest : digest_of (rows basis taken) entry ≡ payload.digest
  pub plays : StepsPlay (plugins place) client entry payload board moments

-- An install.

-- What follows on the claim, by the past behind it: the update, where the claim took an entry.
abbrev pub AfterClaim : Basis → (ℕ → PluginSteps) → ℕ → List Event → ClaimAnswer → List Moment → Type 0
AfterClaim basis plugins client past (ClaimAnswer.Entry entry) moments = UpdatePlays basis plugins client entry past moments
AfterClaim basis plugins client past (ClaimAnswer.Kept entry state) moments = moments ≡ []
AfterClaim basis plugins client past (ClaimAnswer.Refused refusal) moments = moments ≡ []

-- The claim, for which the release's payload was fetched from the client's shelf, and what follows on it.
abbrev pub ClaimPlays : Basis → Means → ℕ → Request → ReleaseRef → List Moment → Type 0
ClaimPlays basis means client request release [] = ⊥
ClaimPlays basis means client request release (m ∷ moments) =
    (note : FetchNote) × (answer : ClaimAnswer) × (m.event ≡ Event.Claim client request note answer)
    × IsFetched basis.facts means.files release note × AfterClaim basis means.plugins client (behind m) answer moments

-- What follows on the ask: the claim, where the ask was answered with a hold.
abbrev pub AfterAsk : Basis → Means → ℕ → Request → AskAnswer → List Moment → Type 0
AfterAsk basis means client request (AskAnswer.Hold blocks release) moments = ClaimPlays basis means client request release moments
AfterAsk basis means client request (AskAnswer.Kept entry state) moments = moments ≡ []
AfterAsk basis means client request (AskAnswer.Refused refusal) moments = moments ≡ []

-- The ask, and what follows on it.
abbrev pub InstallPlays : Basis → Means → ℕ → Request → List Moment → Type 0
InstallPlays basis means client request [] = ⊥
InstallPlays basis means client request (m ∷ moments) =
    (answer : AskAnswer) × (m.event ≡ Event.Ask client request None answer) × AfterAsk basis means client request answer moments

-- An install that is put off.
abbrev pub SchedulePlays : ℕ → Request → Moment → Type 0
SchedulePlays client request m = (answer : ClaimAnswer) × (m.event ≡ Event.Schedule client request answer)

-- The other items.

-- The row is of that device, and is the entry's.
abbrev pub is_row_of : List ℕ → ℕ → Row → Bool
is_row_of device entry row = (row.entry == entry) && bytes_eq row.device device

-- A row was judged: one of the device that the selector finds in the past before.
pub record JudgesFound (basis : Basis) (client : ℕ) (selector : Selector) (m : Moment) : Type 0 where
  pub entry : ℕ
  pub version : List ℕ
  pub state : RowState
  pub stored : Stored
  pub view : DeviceView
  pub event_is : m.event ≡ Event.Judge client entry version state stored
  pub found : found_view (views basis m.before) selector ≡ Some view
  pub row : list_any (is_row_of view.sheet.device entry) (rows basis m.before) ≡ true

-- A device is settled by the judgement of a row of it, or else by the question alone.
abbrev pub SettlePlays : Basis → ℕ → Selector → Moment → Type 0
SettlePlays basis client selector m =
    JudgesFound basis client selector m ⊎ (m.event ≡ Event.Query client (Query.Settle selector))

abbrev pub UnplugPlays : ℕ → Selector → Moment → Type 0
UnplugPlays client selector m = (answer : PlugAnswer) × (m.event ≡ Event.Unplug client selector answer)

abbrev pub PlugPlays : ℕ → Selector → Moment → Type 0
PlugPlays client selector m = (answer : PlugAnswer) × (m.event ≡ Event.Plug client selector answer)

-- The events are the play of an item of that client, who has these means.
abbrev pub Plays : Basis → Means → ℕ → Item → List Moment → Type 0
Plays basis means client (Item.Ask query) moments = Alone (λ m. m.event ≡ Event.Query client query) moments
Plays basis means client (Item.Install request) moments =
    MatchBool request.flags.offline (Alone (SchedulePlays client request) moments) (InstallPlays basis means client request moments)
Plays basis means client (Item.Settle selector) moments = Alone (SettlePlays basis client selector) moments
Plays basis means client (Item.Unplug selector) moments = Alone (UnplugPlays client selector) moments
Plays basis means client (Item.Plug selector) moments = Alone (PlugPlays client selector) moments

-- What the daemon does by itself.

-- It judges the row of an entry, or resumes an entry that was put off.
pub data Task : Type 0 where
  ToJudge : ℕ → Task
  ToResume : ℕ → Task

abbrev pub JudgePlays : ℕ → Moment → Type 0
JudgePlays entry m =
    (version : List ℕ) × (state : RowState) × (stored : Stored) × (m.event ≡ Event.Judge 0 entry version state stored)

-- What follows on the resumption, by the past behind it: the update, where it was begun.
abbrev pub AfterResume : Basis → (ℕ → PluginSteps) → ℕ → List Event → ResumeAnswer → List Moment → Type 0
AfterResume basis plugins entry past ResumeAnswer.Begun moments = UpdatePlays basis plugins 0 entry past moments
AfterResume basis plugins entry past (ResumeAnswer.Refused refusal) moments = moments ≡ []

-- Where the ask was answered with a hold, the release's payload was fetched from the daemon's shelf; and
-- else nothing was.
abbrev pub ResumeFetches : Facts → Files → AskAnswer → Option FetchNote → Type 0
ResumeFetches facts files (AskAnswer.Hold blocks release) note = (found : FetchNote) × (note ≡ Some found) × IsFetched facts files release found
ResumeFetches facts files (AskAnswer.Kept entry state) note = note ≡ None
ResumeFetches facts files (AskAnswer.Refused refusal) note = note ≡ None

-- The resumption after an ask that was answered so, and what follows on it.
abbrev pub ResumePlays : Basis → Means → ℕ → AskAnswer → List Moment → Type 0
ResumePlays basis means entry asked [] = ⊥
ResumePlays basis means entry asked (m ∷ moments) =
    (note : Option FetchNote) × (answer : ResumeAnswer) × (stored : Stored)
    × (m.event ≡ Event.Resume 0 entry note answer stored) × ResumeFetches basis.facts means.files asked note
    × AfterResume basis means.plugins entry (behind m) answer moments

-- The ask for an entry that was put off, and what follows on it.
abbrev pub PendingPlays : Basis → Means → ℕ → List Moment → Type 0
PendingPlays basis means entry [] = ⊥
PendingPlays basis means entry (m ∷ moments) =
    (request : Request) × (answer : AskAnswer) × (m.event ≡ Event.Ask 0 request (Some entry) answer)
    × ResumePlays basis means entry answer moments

-- The events are the play of a task of the daemon, which has these means.
abbrev pub TaskPlays : Basis → Means → Task → List Moment → Type 0
TaskPlays basis means (ToJudge entry) moments = Alone (JudgePlays entry) moments
TaskPlays basis means (ToResume entry) moments = PendingPlays basis means entry moments

-- What is left of a play.

-- At most one event, which gives something back. In a legal log that is what the client had out.
abbrev pub GivesBack : ℕ → List Moment → Type 0
GivesBack client [] = Unit {0}
GivesBack client (m ∷ []) = (what : Back) × (m.event ≡ Event.GiveBack client what)
GivesBack client (m ∷ n ∷ moments) = ⊥

-- A play that was left before its end: a front of it, and what was given back then.
pub record Leaves (client : ℕ) (Play : List Moment → Type 0) (moments : List Moment) : Type 0 where
  pub front : List Moment
  pub rest : List Moment
  pub back : List Moment
  pub play : Play (front ++ rest)
  pub gave : GivesBack client back
  pub are : moments ≡ front ++ back
