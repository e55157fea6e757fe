-- What comes of the installs of a boot that was played, and of the rows that wait for it.
--
-- A past is the log as a boot ended: all of it before the next boot, or before the campaign's end.
use Rattle.std.specs.Prelude.{◌≡◌, ◌⊎◌, ◌<◌, ℕ, Bool, true, false, MatchBool, if◌then◌else◌, List, [], ◌∷◌, ◌++◌, Option, Some, None}
use Rattle.std.specs.List.{filter_map, list_any}
use Rattle.release_catalogue.specs.declared.reference.ReleaseRef.{ReleaseRef}
use Rattle.plugin_trait.specs.Steps.{PluginSteps, steps_at}
use Rattle.history_keeper.specs.declared.row.Row.{Row}
use Rattle.history_keeper.specs.declared.row.RowState.{RowState}
use Rattle.update_log.specs.declared.answer.AskAnswer.{AskAnswer}
use Rattle.update_log.specs.declared.answer.ClaimAnswer.{ClaimAnswer}
use Rattle.update_log.specs.declared.answer.ResumeAnswer.{ResumeAnswer}
use Rattle.update_log.specs.declared.decision.Stage.{Stage}
use Rattle.update_log.specs.declared.event.Back.{Back}
use Rattle.update_log.specs.declared.event.Event.{Event}
use Rattle.update_log.specs.declared.event.Stored.{Stored}
use Rattle.update_log.specs.declared.facts.Facts.{Facts}
use Rattle.update_log.specs.declared.refusal.FetchNote.{FetchNote}
use Rattle.update_log.specs.declared.refusal.Refusal.{Refusal}
use Rattle.update_log.specs.declared.request.Request.{Request}
use Rattle.update_log.specs.Holding.{hold}
use Rattle.update_log.specs.Known.{Basis, rows}
use Rattle.update_log.specs.Legal.{IsLegal, Legal, next_entry}
use Rattle.update_log.specs.Pasts.{boots, is_boot, is_of, off, past_of}
use Rattle.update_log.specs.Shows.{Campaign, IsPrefix}
use Rattle.update_log.specs.Verdicts.{verdict}
use Rattle.offline_updates.specs.Waiting.{entries_where, is_pending}
use Rattle.daemon_core.specs.PutOff.{IsAccept}
use Rattle.client_scripts.specs.declared.item.Item.{Item}
use Rattle.client_plays.specs.Idle.{IsEndedBy}
use Rattle.client_plays.specs.Moments.{Moment, began, mine}
use Rattle.client_plays.specs.Scripts.{BootPlayed, Script, items_of, scripts_in}
use Rattle.client_plays.specs.Shelves.{IsFetched}
use Rattle.client_plays.specs.Tools.{Files, Means, means_of}
use Rattle.client_plays.specs.Complete.{HasPayload}

-- Which installs were begun.

-- An install is wanted in the boot itself, or is put off to the next one.
pub data Wish : Type 0 where
  Now : Request → Wish
  AtBoot : Request → Wish

-- The install that an item of a script wants, and that an event begins: by the ask, or by putting it off.
abbrev pub wanted_by : Item → Option Wish
wanted_by (Item.Install request) = Some (if request.flags.offline then AtBoot request else Now request)
wanted_by (Item.Ask query) = None
wanted_by (Item.Settle selector) = None
wanted_by (Item.Unplug selector) = None
wanted_by (Item.Plug selector) = None

abbrev pub begun_by : Event → Option Wish
begun_by (Event.Ask client request None answer) = Some (Now request)
begun_by (Event.Schedule client request answer) = Some (AtBoot request)
begun_by _ = None

-- The installs of a script, and those that these events begin, in order.
abbrev pub installs_wanted : List Item → List Wish
installs_wanted items = filter_map wanted_by items

abbrev pub installs_begun : List Moment → List Wish
installs_begun moments = filter_map (λ m. begun_by m.event) moments

-- The entries that were put off to a boot that began so, and those for which these events ask, in order.
abbrev pub rows_waiting : Basis → List Event → List ℕ
rows_waiting basis [] = []
rows_waiting basis (boot ∷ past) = entries_where is_pending (rows basis (boot ∷ past))

abbrev pub row_begun_by : Event → Option ℕ
row_begun_by (Event.Ask client request (Some entry) answer) = Some entry
row_begun_by _ = None

abbrev pub rows_begun : List Moment → List ℕ
rows_begun moments = filter_map (λ m. row_begun_by m.event) moments

-- These are some of all of those, in their order: the first of those is left out, or it is the first of these too.
abbrev pub AreSomeOf : {X : Type 0} → List X → List X → Type 0
AreSomeOf xs [] = xs ≡ []
AreSomeOf {X = X} xs (y ∷ all) = AreSomeOf xs all ⊎ ((rest : List X) × (xs ≡ y ∷ rest) × AreSomeOf rest all)

-- All that was wanted was begun, in order. In a boot that went off it may be a front of it alone, and where
-- memory was wanting some may be missing.
abbrev pub AreBegun : {X : Type 0} → Bool → Bool → List X → List X → Type 0
AreBegun is_off wanting begun wanted =
    MatchBool wanting (AreSomeOf begun wanted) (MatchBool is_off (IsPrefix begun wanted) (begun ≡ wanted))

-- Where an event stands.

-- In the boot that runs, with the events behind it, the newest first, and the past before it.
pub record InBoot (past : List Event) (event : Event) : Type 0 where
  pub later : List Event
  pub before : List Event
  pub are : past ≡ later ++ event ∷ before
  pub in_boot : list_any is_boot later ≡ false

-- As the next one of a client, behind others' alone.
pub record NextOf (client : ℕ) (later : List Event) (event : Event) : Type 0 where
  pub newer : List Event
  pub between : List Event
  pub are : later ≡ newer ++ event ∷ between
  pub others : list_any (is_of client) between ≡ false

-- What comes of a request that is accepted.

-- What the client asked for was given back, after it was held so long, since the boot is off or memory was
-- wanting.
pub record IsGivenUp (is_off wanting : Bool) (client : ℕ) (asked later : List Event) : Type 0 where
  pub what : Back
  pub newer : List Event
  pub between : List Event
  pub are : later ≡ newer ++ Event.GiveBack client what ∷ between
  pub held : hold (between ++ asked) client ≡ hold asked client
  pub cause : (is_off ≡ true) ⊎ (wanting ≡ true)

-- The payload of a release is there for a client: it lies on its shelf; or it came whole, as the note of its fetch
-- says.
abbrev pub IsThere : Facts → Files → ReleaseRef → FetchNote → Type 0
IsThere facts files release note =
    HasPayload facts files release ⊎ ((digest : List ℕ) × (size : ℕ) × (raw : ℕ) × (note ≡ FetchNote.Whole digest size raw))

-- The claim took the next entry, which was finished behind it, or given back because the boot is off. Or the
-- history couldn't be written, and the boot is off; or the shelf failed.
abbrev pub Installs : Bool → ℕ → List Event → FetchNote → ClaimAnswer → Type 0
Installs is_off next newer note answer =
    ((answer ≡ ClaimAnswer.Entry next) × IsEndedBy is_off next newer)
    ⊎ ((answer ≡ ClaimAnswer.Refused Refusal.KeeperFault) × (is_off ≡ true))
    ⊎ (note ≡ FetchNote.ShelfFault)

-- The client's next event is its claim. Where the verdict on the request still accepts then, and the payload of
-- the release that was asked for is there, that is installed.
pub record IsClaimed (basis : Basis) (files : Files) (is_off : Bool) (client : ℕ) (request : Request) (release : ReleaseRef) (asked later : List Event) : Type 0 where
  pub note : FetchNote
  pub answer : ClaimAnswer
  pub next : NextOf client later (Event.Claim client request note answer)
  pub fetched : IsFetched basis.facts files release note
  pub installs : IsAccept (verdict basis (next.between ++ asked) client request (Stage.Claim release)) → IsThere basis.facts files release note → Installs is_off (next_entry basis (next.between ++ asked)) next.newer note answer

-- An ask that was accepted was answered with a hold, and was claimed or given up.
pub record InstallComes (wanting : Bool) (basis : Basis) (files : Files) (past : List Event) (client : ℕ) (request : Request) (answer : AskAnswer) (stands : InBoot past (Event.Ask client request None answer)) : Type 0 where
  pub blocks : ℕ
  pub release : ReleaseRef
  pub answer_is : answer ≡ AskAnswer.Hold blocks release
  pub comes : IsClaimed basis files (off past) client request release (Event.Ask client request None answer ∷ stands.before) stands.later ⊎ IsGivenUp (off past) wanting client (Event.Ask client request None answer ∷ stands.before) stands.later

-- The rows have one more at the end, with the next entry, which waits for a boot with that client's request.
pub record IsPutOff (basis : Basis) (before : List Event) (client : ℕ) (request : Request) (event : Event) : Type 0 where
  pub row : Row
  pub rows_are : rows basis (event ∷ before) ≡ rows basis before ++ row ∷ []
  pub entry_is : row.entry ≡ next_entry basis before
  pub waits : row.state ≡ RowState.Pending
  pub client_is : row.client ≡ client
  pub tag_is : row.tag ≡ request.tag

-- A request that was put off and accepted has the next entry, whose row waits for a boot. Or the history couldn't
-- be written, and the boot is off.
abbrev pub PutsOff : Basis → Bool → ℕ → Request → ClaimAnswer → List Event → Type 0
PutsOff basis is_off client request answer before =
    ((answer ≡ ClaimAnswer.Entry (next_entry basis before)) × IsPutOff basis before client request (Event.Schedule client request answer))
    ⊎ ((answer ≡ ClaimAnswer.Refused Refusal.KeeperFault) × (is_off ≡ true))

-- The row's entry was begun, and was finished behind that, or given back because the boot is off. Or the history
-- couldn't be written, and the boot is off; or the shelf failed.
abbrev pub Begins : Bool → ℕ → List Event → FetchNote → ResumeAnswer → Type 0
Begins is_off entry newer note answer =
    ((answer ≡ ResumeAnswer.Begun) × IsEndedBy is_off entry newer)
    ⊎ ((answer ≡ ResumeAnswer.Refused Refusal.KeeperFault) × (is_off ≡ true))
    ⊎ (note ≡ FetchNote.ShelfFault)

-- The daemon's next event is the resumption of the row. Where the verdict on the request still accepts then, and
-- the payload of the release that was asked for is there, the entry begins.
pub record IsResumed (basis : Basis) (files : Files) (is_off : Bool) (entry : ℕ) (request : Request) (release : ReleaseRef) (asked later : List Event) : Type 0 where
  pub note : FetchNote
  pub answer : ResumeAnswer
  pub stored : Stored
  pub next : NextOf 0 later (Event.Resume 0 entry (Some note) answer stored)
  pub fetched : IsFetched basis.facts files release note
  pub begins : IsAccept (verdict basis (next.between ++ asked) 0 request (Stage.Resume entry release)) → IsThere basis.facts files release note → Begins is_off entry next.newer note answer

-- The ask for a row that was accepted was answered with a hold, and the row was resumed or given up.
pub record ResumptionComes (wanting : Bool) (basis : Basis) (files : Files) (past : List Event) (entry : ℕ) (request : Request) (answer : AskAnswer) (stands : InBoot past (Event.Ask 0 request (Some entry) answer)) : Type 0 where
  pub blocks : ℕ
  pub release : ReleaseRef
  pub answer_is : answer ≡ AskAnswer.Hold blocks release
  pub comes : IsResumed basis files (off past) entry request release (Event.Ask 0 request (Some entry) answer ∷ stands.before) stands.later ⊎ IsGivenUp (off past) wanting 0 (Event.Ask 0 request (Some entry) answer ∷ stands.before) stands.later

-- Boots.

-- A boot does what it is to do. Each client begins each install of its script, and the daemon each row that waits
-- for the boot; each of these that is accepted comes to its end. `files` has those of each client's shelf, and
-- `wanting` says that memory was wanting.
pub record BootCompletes (wanting : Bool) (basis : Basis) (files : ℕ → Files) (of_boot : List (List Item)) (past : List Event) : Type 0 where
  pub begun : (client : ℕ) → 0 < client → AreBegun (off past) wanting (installs_begun (mine client past)) (installs_wanted (items_of of_boot client))
  pub installs : (client : ℕ) (request : Request) (answer : AskAnswer) (stands : InBoot past (Event.Ask client request None answer)) → 0 < client
      → IsAccept (verdict basis stands.before client request Stage.Ask) → InstallComes wanting basis (files client) past client request answer stands
  pub put_off : (client : ℕ) (request : Request) (answer : ClaimAnswer) (stands : InBoot past (Event.Schedule client request answer))
      → IsAccept (verdict basis stands.before client request Stage.Schedule) → PutsOff basis (off past) client request answer stands.before
  pub resumed : AreBegun (off past) wanting (rows_begun (mine 0 past)) (rows_waiting basis (began past))
  pub resumptions : (entry : ℕ) (request : Request) (answer : AskAnswer) (stands : InBoot past (Event.Ask 0 request (Some entry) answer))
      → IsAccept (verdict basis stands.before 0 request (Stage.AskPending entry)) → ResumptionComes wanting basis (files 0) past entry request answer stands

-- What each client plays with: the files of its shelf, and these plugins.
abbrev pub means_with : {Q : Type 0} → (Q → PluginSteps) → List Q → (ℕ → Files) → ℕ → Means
means_with steps plugins files client = means_of (files client) (steps_at steps plugins)

-- In every campaign, a boot that was played over a legal log does what it is to do.
abbrev pub BootsComplete : {Q : Type 0} → (Q → PluginSteps) → Type 0
BootsComplete {Q = Q} steps =
    (wanting : Bool) (c : Campaign) (plugins : List Q) (files : ℕ → Files) (of_boot : List (List Item)) (past : List Event)
    → IsLegal c past → BootPlayed wanting c.basis (means_with steps plugins files) of_boot past → BootCompletes wanting c.basis files of_boot past

-- The past is a whole one as a boot of it ended.
abbrev pub EndsBoot : List Event → List Event → Type 0
EndsBoot whole past = (past ≡ whole) ⊎ ((newer : List Event) × (boot : Event) × (is_boot boot ≡ true) × (whole ≡ newer ++ boot ∷ past))

-- So does each boot of a campaign whose scripts were played.
abbrev pub CampaignsComplete : {Q : Type 0} → (Q → PluginSteps) → Type 0
CampaignsComplete {Q = Q} steps =
    (wanting : Bool) (c : Campaign) (plugins : List Q) (files : ℕ → Files) (scripts : List (List (List Item))) (log past : List Event)
    → Legal c log → Script wanting c.basis (means_with steps plugins files) scripts log → EndsBoot (past_of log) past
    → BootCompletes wanting c.basis files (scripts_in scripts (boots past)) past
