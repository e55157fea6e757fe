-- Which boards fit a log, and that each write of theirs belongs to one accepted request.
use Rattle.std.specs.Prelude.{◌≤◌, ◌≡◌, ◌≢◌, ℕ, suc, Bool, true, false, ◌&&◌, ◌==◌, ◌<◌, IsTrue, MatchBool, AllPairs, List, [], ◌∷◌, ◌++◌, length, Option, Some, None, IfSome, if◌then◌else◌, slice_get}
use Rattle.std.specs.List.{list_any, AllByRecursion}
use Rattle.std.specs.Bool.{OnTrue}
use Rattle.fw_facts.specs.declared.seen.Seen.{Seen}
use Rattle.fw_facts.specs.Views.{guids_of}
use Rattle.emulated_boards.specs.declared.mark.Mark.{Mark}
use Rattle.history_keeper.specs.declared.row.Row.{Row}
use Rattle.history_keeper.specs.declared.row.RowState.{RowState}
use Rattle.history_keeper.specs.declared.change.Change.{Change}
use Rattle.history_keeper.specs.Histories.{AreLinked, RetriedOnce}
use Rattle.release_catalogue.specs.Lookup.{provides}
use Rattle.update_log.specs.declared.event.Event.{Event}
use Rattle.update_log.specs.declared.event.Op.{Op}
use Rattle.update_log.specs.declared.event.Found.{Found}
use Rattle.update_log.specs.declared.answer.ClaimAnswer.{ClaimAnswer}
use Rattle.update_log.specs.declared.answer.ResumeAnswer.{ResumeAnswer}
use Rattle.update_log.specs.declared.refusal.FetchNote.{FetchNote}
use Rattle.update_log.specs.declared.request.Request.{Request}
use Rattle.update_log.specs.Pasts.{past_of, boots}
use Rattle.update_log.specs.Holding.{holds, request_held}
use Rattle.update_log.specs.Known.{Basis, Target, target, row_of, is_board_of, rows, seen, doubt, views}
use Rattle.update_log.specs.Verdicts.{first_unmet_for}
use Rattle.update_log.specs.Steps.{op_number}
use Rattle.update_log.specs.Shows.{Campaign, IsPrefix, told, told_by, is_began, HasRaw, first_of_board}
use Rattle.update_log.specs.Legal.{open_on, open_marks, is_whole}

-- A board, as its journal and what it shows.
pub record JournalAndView : Type 0 where
  pub journal : List Mark
  pub view : Seen

-- A journal is what was told of its board, and a tail that begins the marks of the step open on it.
pub record JournalFits (basis : Basis) (past : List Event) (board : ℕ) (journal tail : List Mark) : Type 0 where
  pub told_and_tail : journal ≡ told basis past board ++ tail
  pub tail_is : IsPrefix tail (open_marks basis past board)

-- A board that is there shows the raw version of its first image.
abbrev pub ShowsFirst : Seen → Seen → Type 0
ShowsFirst (Seen.Home raw mode) first = HasRaw first raw
ShowsFirst Seen.Gone first = Unit {0}
ShowsFirst Seen.Stranger first = Unit {0}

-- A board fits a past: its journal does; where no step is open on it and there was a boot, it shows
-- what it was last seen to show; and where no write of it began, it shows the raw version of its
-- first image, if it is there.
pub record BoardFits (basis : Basis) (first : List Seen) (past : List Event) (board : ℕ) (b : JournalAndView) (tail : List Mark) : Type 0 where
  pub journal : JournalFits basis past board b.journal tail
  pub view : open_on basis past board ≡ None → 0 < boots past → b.view ≡ seen basis past board
  pub unwritten : list_any is_began b.journal ≡ false → ShowsFirst b.view (first_of_board first board)

-- All boards fit.
pub record FitsPast (basis : Basis) (first : List Seen) (past : List Event) (boards : List JournalAndView) : Type 0 where
  pub count : length boards ≡ length basis.facts.sheets
  pub each : (board : ℕ) (b : JournalAndView) → slice_get boards board ≡ Some b → (tail : List Mark) × BoardFits basis first past board b tail

abbrev pub Fits : Campaign → List Event → List JournalAndView → Type 0
Fits c log boards = FitsPast c.basis c.first (past_of log) boards

-- The entry that a mark names.
abbrev pub entry_named : Mark → Option ℕ
entry_named Mark.Entered = None
entry_named (Mark.Began entry) = Some entry
entry_named (Mark.Ended entry digest) = Some entry
entry_named Mark.Left = None

-- A mark is of the same kind, and names the same entry.
abbrev pub is_like : Mark → Mark → Bool
is_like (Mark.Began entry) (Mark.Began other) = entry == other
is_like (Mark.Ended entry digest) (Mark.Ended other digest') = entry == other
is_like _ _ = false

-- How many pass a test.
abbrev pub how_many : {X : Type 0} → (X → Bool) → List X → ℕ
how_many test [] = 0
how_many test (x ∷ xs) = if test x then suc (how_many test xs) else how_many test xs

abbrev pub is_pending : RowState → Bool
is_pending RowState.Pending = true
is_pending RowState.Success = false
is_pending RowState.Failed = false
is_pending RowState.NeedsReboot = false
is_pending RowState.Begun = false

-- A boot found that the pending row of an entry, which was in doubt, had been stored.
abbrev pub accepts_found : ℕ → Found → Option Change → Bool
accepts_found entry Found.Kept (Some (Change.Add row)) = (row.entry == entry) && is_pending row.state
accepts_found entry _ _ = false

-- The event accepts the request of an entry: a claim or a schedule that answers with it, or a boot
-- that found the row of its schedule.
abbrev pub accepts : ℕ → Option Change → Event → Bool
accepts entry doubt (Event.Claim client request fetched (ClaimAnswer.Entry taken)) = taken == entry
accepts entry doubt (Event.Schedule client request (ClaimAnswer.Entry taken)) = taken == entry
accepts entry doubt (Event.Boot number time limit found boards) = accepts_found entry found doubt
accepts entry doubt _ = false

abbrev pub is_pending_row : ℕ → Row → Bool
is_pending_row entry row = (row.entry == entry) && is_pending row.state

-- How many requests of an entry were accepted: pending rows of the opening, and since then.
abbrev pub accepted : Basis → ℕ → List Event → ℕ
accepted basis entry [] = how_many (is_pending_row entry) basis.opening
accepted basis entry (event ∷ past) =
    if accepts entry (doubt basis past) event then suc (accepted basis entry past) else accepted basis entry past

-- The event takes an entry: its accepted claim, or the resumption that begins it.
abbrev pub takes : ℕ → Event → Bool
takes entry (Event.Claim client request fetched (ClaimAnswer.Entry taken)) = taken == entry
takes entry (Event.Resume client taken fetched ResumeAnswer.Begun stored) = taken == entry
takes entry _ = false

-- The request of such an event, and the payload that was fetched for it.
abbrev pub request_taken : List Event → Event → Option Request
request_taken before (Event.Claim client request fetched answer) = Some request
request_taken before (Event.Resume client entry fetched answer stored) = request_held (holds before) client
request_taken before _ = None

abbrev pub payload_taken : Event → Option FetchNote
payload_taken (Event.Claim client request fetched answer) = Some fetched
payload_taken (Event.Resume client entry fetched answer stored) = fetched
payload_taken _ = None

-- The steps of an entry that were started and ended, the newest first.
pub data Stroke : Type 0 where
  Started : Op → Stroke
  Ended : Op → Stroke

abbrev pub strokes : ℕ → List Event → List Stroke
strokes entry [] = []
strokes entry (Event.Start client started op ∷ past) =
    if started == entry then Started op ∷ strokes entry past else strokes entry past
strokes entry (Event.End client ended op outcome told seen ∷ past) =
    if ended == entry then Ended op ∷ strokes entry past else strokes entry past
strokes entry (_ ∷ past) = strokes entry past

-- An entry was taken well. Its request has the tag of its row. In the log before, none of its steps was
-- started, and a release was chosen for its request that has the digest of its row: for the device of
-- that row, of which the release's component provides a GUID, and whose requirements hold. The payload has
-- the release's digest and size.
pub record TakenWell (basis : Basis) (before : List Event) (event : Event) (row : Row) (request : Request) (t : Target) (note : FetchNote) : Type 0 where
  pub request_is : request_taken before event ≡ Some request
  pub tag : request.tag ≡ row.tag
  pub unstarted : strokes row.entry before ≡ []
  pub target_is : target basis.facts (views basis before) request ≡ Some t
  pub device : t.view.sheet.device ≡ row.device
  pub digest : t.chosen.release.digest ≡ row.digest
  pub matches : IsTrue (provides (guids_of t.view) t.chosen.component)
  pub met : first_unmet_for basis.facts row.client (views basis before) t ≡ None
  pub payload : payload_taken event ≡ Some note
  pub whole : IsTrue (is_whole note t.chosen)

abbrev pub TakenBy : Basis → Row → List Event → Event → Type 0
TakenBy basis row before event =
    (request : Request) × (t : Target) × (note : FetchNote) × TakenWell basis before event row request t note

-- A fact of the event that takes an entry, and of the log before it.
abbrev pub AtTaking : ℕ → (List Event → Event → Type 0) → List Event → Type 0
AtTaking entry Fact [] = ⊥
AtTaking entry Fact (event ∷ past) = MatchBool (takes entry event) (Fact past event) (AtTaking entry Fact past)

-- The steps begin with prepare, rise strictly, and each is ended before the next is started.
abbrev pub InOrder : List Stroke → Type 0
InOrder [] = Unit {0}
InOrder (Started op ∷ []) = op ≡ Op.Prepare
InOrder (Started op ∷ Ended last ∷ rest) = (op_number last < op_number op) × InOrder (Ended last ∷ rest)
InOrder (Ended op ∷ Started last ∷ rest) = (op ≡ last) × InOrder (Started last ∷ rest)
InOrder (Started op ∷ Started last ∷ rest) = ⊥
InOrder (Ended op ∷ Ended last ∷ rest) = ⊥
InOrder (Ended op ∷ []) = ⊥

abbrev pub is_write : Op → Bool
is_write Op.Prepare = false
is_write Op.Detach = false
is_write Op.Write = true
is_write Op.Attach = false
is_write Op.Reload = false
is_write Op.Cleanup = false

-- The event starts the write of an entry.
abbrev pub starts_write : ℕ → Event → Bool
starts_write entry (Event.Start client started op) = (started == entry) && is_write op
starts_write entry _ = false

-- Each event that tells a mark like this of a board comes after the start of the entry's write.
abbrev pub AfterStart : Basis → ℕ → ℕ → Mark → List Event → Type 0
AfterStart basis board entry mark [] = Unit {0}
AfterStart basis board entry mark (event ∷ past) =
    OnTrue (list_any (is_like mark) (told_by basis.facts (rows basis past) event board)) (IsTrue (list_any (starts_write entry) past))
    × AfterStart basis board entry mark past

-- The digest that the mark has, if it is an end.
abbrev pub HasDigest : Mark → List ℕ → Type 0
HasDigest Mark.Entered d = Unit {0}
HasDigest (Mark.Began entry) d = Unit {0}
HasDigest (Mark.Ended entry digest) d = digest ≡ d
HasDigest Mark.Left d = Unit {0}

-- The write of an entry of which this mark stands in that board's journal belongs to one accepted
-- request: the board is the device of the entry's row, no other mark like this one stands in any
-- journal, one request of the entry was accepted, one event took the entry and took it well, the
-- mark has the row's digest, and the steps stand in order, the write's before what was told of it.
pub record WrittenOnce (basis : Basis) (past : List Event) (boards : List JournalAndView) (board : ℕ) (journal : List Mark) (mark : Mark) (entry : ℕ) (row : Row) : Type 0 where
  pub row_is : row_of (rows basis past) entry ≡ Some row
  pub board_is : IsTrue (is_board_of basis.facts (rows basis past) entry board)
  pub alone : how_many (is_like mark) journal ≡ 1
  pub nowhere_else : (other : ℕ) (b : JournalAndView) → slice_get boards other ≡ Some b → other ≢ board → how_many (is_like mark) b.journal ≡ 0
  pub accepted_once : accepted basis entry past ≡ 1
  pub taken_once : how_many (takes entry) past ≡ 1
  pub taken_well : AtTaking entry (TakenBy basis row) past
  pub digest : HasDigest mark row.digest
  pub in_order : InOrder (strokes entry past)
  pub after_start : AfterStart basis board entry mark past

-- So does each mark of a write in a journal.
abbrev pub MarkOnce : Basis → List Event → List JournalAndView → ℕ → List Mark → Mark → Type 0
MarkOnce basis past boards board journal mark =
    IfSome (entry_named mark) (λ entry. (row : Row) × WrittenOnce basis past boards board journal mark entry row)

-- Each mark of a write in each journal belongs to one accepted request and one taking of its entry, and
-- no two rows have one tag. A row that tries another one again tries an earlier failed one of its device,
-- and no two rows try the same one.
pub record OncePast (basis : Basis) (past : List Event) (boards : List JournalAndView) : Type 0 where
  pub marks : (board : ℕ) (b : JournalAndView) → slice_get boards board ≡ Some b → AllByRecursion (MarkOnce basis past boards board b.journal) b.journal
  pub tags : AllPairs (λ a b. a.tag ≢ b.tag) (rows basis past)
  pub linked : AreLinked (rows basis past)
  pub retried : RetriedOnce (rows basis past)

abbrev pub Once : Campaign → List Event → List JournalAndView → Type 0
Once c log boards = OncePast c.basis (past_of log) boards

-- No two rows have one tag, and no entry is taken twice, written or not.
pub record IsTakenOnce (basis : Basis) (past : List Event) : Type 0 where
  pub tags : AllPairs (λ a b. a.tag ≢ b.tag) (rows basis past)
  pub taken : (entry : ℕ) → how_many (takes entry) past ≤ 1
