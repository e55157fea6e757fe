-- Each legal past of early events, with boards that fit, writes each entry once.
use Rattle.update_log.proofs.Unlimited.{unlimited}
use Rattle.std.proofs.Common.{◌≡◌, ◌≢◌, ℕ, true, false, List, [], ◌∷◌, refl, ap, sym, ◌∙◌, ◌≤◌, arith, ◌⊎◌, inl, inr, length, subst}
use Rattle.std.proofs.lemmas.Bool.{eqb-true}
use Rattle.std.specs.Prelude.{Option, Some, None, IfSome, ◌==◌, option_map, slice_get, unwrap_or}
use Rattle.std.specs.List.{AllByRecursion}
use Rattle.emulated_boards.specs.declared.mark.Mark.{Mark}
use Rattle.fw_facts.specs.declared.seen.Seen.{Seen}
use Rattle.history_keeper.specs.Histories.{IsHistory}
use Rattle.history_keeper.specs.declared.change.Change.{Change}
use Rattle.history_keeper.specs.declared.row.Row.{Row}
use Rattle.history_keeper.specs.declared.row.RowState.{RowState}
use Rattle.update_log.proofs.HoldsMade.{HoldsMade, holds-step, row-within, goes_on-grows}
use Rattle.update_log.proofs.Lists.{All-append, All-both, All-filter, All-map, by_test, eqb-other, eqb-self}
use Rattle.update_log.proofs.MarksKept.{MarkKept, MarkOf, MarksKept, OpenMarks, how_many-append, marks-boot, marks-end, marks-none, marks-quiet, marks-start, open-marks}
use Rattle.update_log.proofs.Openings.{distinct-tags, entries-from, tags-differ}
use Rattle.update_log.proofs.RowsKept.{RowsKept, RowsStep, closed-settled, fixed, judged-settled, rows-step-on}
use Rattle.update_log.proofs.StepsKept.{StepsKept, not-fresh, open-started, steps-boot, steps-claim, steps-end, steps-none, steps-quiet, steps-resumed, steps-start}
use Rattle.update_log.proofs.StrokeFacts.{few-writes, writes}
use Rattle.update_log.proofs.TakenKept.{Taken, TakenKept, WaitingKept, taken-at_most, taken-boot, taken-claim, taken-end, taken-none, taken-quiet, taken-resume, taken-schedule, taken-start, untaken-unstarted, waiting-advanced, waiting-boot, waiting-claim, waiting-none, waiting-resume, waiting-same, waiting-schedule}
use Rattle.update_log.specs.Holding.{live, open_steps}
use Rattle.update_log.specs.Known.{Basis, Fate, board_of, doubt, fate_stored, reason_of, refusal_number, row_of, rows, rows_by}
use Rattle.update_log.specs.Legal.{Allowed, BootRuns, IsLegal, IsLegalUnlimited, ResumeAllowed, closing_stored}
use Rattle.update_log.specs.Once.{AtTaking, FitsPast, HasDigest, IsTakenOnce, JournalAndView, JournalFits, MarkOnce, OncePast, Stroke, TakenBy, WrittenOnce, accepts, entry_named, how_many, is_like, is_pending, strokes, takes}
use Rattle.update_log.specs.Pasts.{is_keeper_fault, time_of}
use Rattle.update_log.specs.Shows.{Campaign, digest_of, told, told_by}
use Rattle.update_log.specs.Steps.{judge, trace}
use Rattle.update_log.specs.declared.answer.ResumeAnswer.{ResumeAnswer}
use Rattle.update_log.specs.declared.event.Back.{Back}
use Rattle.update_log.specs.declared.event.Event.{Event}
use Rattle.update_log.specs.declared.event.Op.{Op}
use Rattle.update_log.specs.declared.event.Stored.{Stored}
use Rattle.update_log.specs.declared.live.LiveEntry.{LiveEntry}
use Rattle.update_log.specs.declared.refusal.FetchNote.{FetchNote}

-- what each legal past keeps
pub record PastKept (basis : Basis) (past : List Event) : Type 0 where
  pub rows_kept : RowsKept basis past
  pub steps : StepsKept basis past
  pub taken : TakenKept basis past
  pub waiting : WaitingKept basis past
  pub marks : MarksKept basis past

pub started-some : (past : List Event) (entry : ℕ) (op : Op) (rest : List Stroke) → strokes entry past ≡ Stroke.Started op ∷ rest → strokes entry past ≢ []
started-some past entry op rest e = λ n. not-fresh (strokes entry past) op rest e n

-- an event that starts, ends, takes and accepts nothing, and makes no change
pub past-quiet : (basis : Basis) (past : List Event) (event : Event) → PastKept basis past → RowsStep basis past event → rows basis (event ∷ past) ≡ rows basis past → ((e : ℕ) → strokes e (event ∷ past) ≡ strokes e past) → open_steps (event ∷ past) ≡ open_steps past → ((e : ℕ) → trace basis e (event ∷ past) ≡ trace basis e past) → ((P : LiveEntry → Type 0) → AllByRecursion P (live past) → AllByRecursion P (live (event ∷ past))) → ((e : ℕ) → takes e event ≡ false) → ((e : ℕ) → accepts e (doubt basis past) event ≡ false) → ((board : ℕ) → told_by basis.facts (rows basis past) event board ≡ []) → PastKept basis (event ∷ past)
past-quiet basis past event k r same s o t l tk ac tell =
    record {
      rows_kept = r.kept;
      steps = steps-quiet basis past event k.steps (omega (arith, ap length same)) s o t (l _ k.steps.live_is);
      taken = taken-quiet basis past event k.taken r.goes_on tk (λ e _. ac e) (λ e _. ac e) (inr (l _ k.taken.live_taken)) (λ e. begins e (k.taken.begun e));
      waiting = waiting-same basis past event k.waiting k.rows_kept.valid.entries same (λ e _. tk e) (λ e _. ac e);
      marks = marks-quiet basis past event k.marks r.goes_on s tell o;
    }
  where
    begins : (e : ℕ) → (strokes e past ≡ []) ⊎ Taken basis past e → (strokes e (event ∷ past) ≡ []) ⊎ Taken basis past e
    begins e (inl n) = inl (s e ∙ n)
    begins e (inr u) = inr u

-- an event that may advance a row
pub past-advanced : (basis : Basis) (past : List Event) (event : Event) (fate : Fate) (entry : ℕ) (state : RowState) (reason time : ℕ) → PastKept basis past → RowsStep basis past event → rows basis (event ∷ past) ≡ rows_by fate (Some (Change.Advance entry state reason time)) (rows basis past) → is_pending state ≡ false → ((e : ℕ) → strokes e (event ∷ past) ≡ strokes e past) → open_steps (event ∷ past) ≡ open_steps past → ((e : ℕ) → trace basis e (event ∷ past) ≡ trace basis e past) → ((P : LiveEntry → Type 0) → AllByRecursion P (live past) → AllByRecursion P (live (event ∷ past))) → ((e : ℕ) → takes e event ≡ false) → ((e : ℕ) → accepts e (doubt basis past) event ≡ false) → ((board : ℕ) → told_by basis.facts (rows basis past) event board ≡ []) → PastKept basis (event ∷ past)
past-advanced basis past event fate entry state reason time k r rows_are n s o t l tk ac tell =
    record {
      rows_kept = r.kept;
      steps = steps-quiet basis past event k.steps (goes_on-grows (rows basis past) (rows basis (event ∷ past)) r.goes_on) s o t (l _ k.steps.live_is);
      taken = taken-quiet basis past event k.taken r.goes_on tk (λ e _. ac e) (λ e _. ac e) (inr (l _ k.taken.live_taken)) (λ e. begins e (k.taken.begun e));
      waiting = waiting-advanced basis past event fate entry state reason time k.waiting k.taken k.rows_kept.valid.entries rows_are n tk ac;
      marks = marks-quiet basis past event k.marks r.goes_on s tell o;
    }
  where
    begins : (e : ℕ) → (strokes e past ≡ []) ⊎ Taken basis past e → (strokes e (event ∷ past) ≡ []) ⊎ Taken basis past e
    begins e (inl n) = inl (s e ∙ n)
    begins e (inr u) = inr u

-- a live entry isn't a pending row's
pub live-others : (basis : Basis) (past : List Event) (entry : ℕ) → how_many (takes entry) past ≡ 0 → AllByRecursion (λ l. Taken basis past l.entry) (live past) → AllByRecursion (λ l. (entry == l.entry) ≡ false) (live past)
live-others basis past entry none h =
    All-map _ _ (live past) h (λ l u. eqb-other entry l.entry (λ s. let one : how_many (takes l.entry) past ≡ 1 = u.once in let zero_is : how_many (takes l.entry) past ≡ 0 = subst (λ (x : ℕ). how_many (takes x) past ≡ 0) s none in let bad : 1 ≡ 0 = sym one ∙ zero_is in cc))

pub past-resume : (basis : Basis) (past : List Event) (client entry : ℕ) (fetched : Option FetchNote) (answer : ResumeAnswer) (stored : Stored) (row : Row) → PastKept basis past → HoldsMade basis past → RowsStep basis past (Event.Resume client entry fetched answer stored) → ResumeAllowed basis past client entry fetched answer stored row → PastKept basis (Event.Resume client entry fetched answer stored ∷ past)
past-resume basis past client entry fetched ResumeAnswer.Begun stored row k made r a =
    let pending : is_pending row.state ≡ true = (let p : row.state ≡ RowState.Pending = a.pending in rw p refl) in
    let none : how_many (takes entry) past ≡ 0 = k.waiting.untaken entry row a.row_is pending in
    record {
      rows_kept = r.kept;
      steps = steps-resumed basis past client entry fetched stored k.steps
          (goes_on-grows (rows basis past) _ r.goes_on)
          (row-within (rows basis past) entry row k.rows_kept.valid.entries a.row_is)
          (untaken-unstarted basis past entry none (k.taken.begun entry))
          (live-others basis past entry none k.taken.live_taken);
      taken = taken-resume basis past client entry fetched ResumeAnswer.Begun stored row made k.rows_kept k.taken k.waiting r.goes_on a;
      waiting = waiting-resume basis past client entry fetched ResumeAnswer.Begun stored row k.rows_kept k.taken k.waiting a;
      marks = marks-quiet basis past (Event.Resume client entry fetched ResumeAnswer.Begun stored) k.marks r.goes_on (λ e. refl) (λ board. refl) refl;
    }
past-resume basis past client entry fetched (ResumeAnswer.Refused refusal) stored row k made r a =
    by_test (is_keeper_fault refusal) _
    (λ t. past-advanced basis past event (fate_stored stored) entry RowState.Begun (reason_of (rows basis past) entry) (time_of past) k r (rw t refl)
    refl (λ e. refl) refl (λ e. refl) (λ P h. h) (λ e. refl) (λ e. refl) (λ board. refl))
    (λ t. past-advanced basis past event (fate_stored stored) entry RowState.Failed (refusal_number refusal) (time_of past) k r (rw t refl)
    refl (λ e. refl) refl (λ e. refl) (λ P h. h) (λ e. refl) (λ e. refl) (λ board. refl))
  where
    event : Event
    event = Event.Resume client entry fetched (ResumeAnswer.Refused refusal) stored

pub past-give_back : (c : Campaign) (past : List Event) (client : ℕ) (what : Back) → PastKept c.basis past → RowsStep c.basis past (Event.GiveBack client what) → PastKept c.basis (Event.GiveBack client what ∷ past)
past-give_back c past client (Back.Tag tag) k r =
    past-quiet c.basis past (Event.GiveBack client (Back.Tag tag)) k r refl (λ e. refl) refl (λ e. refl) (λ P h. h) (λ e. refl) (λ e. refl) (λ board. refl)
past-give_back c past client (Back.Pending entry) k r =
    past-quiet c.basis past (Event.GiveBack client (Back.Pending entry)) k r refl (λ e. refl) refl (λ e. refl) (λ P h. h) (λ e. refl) (λ e. refl) (λ board. refl)
past-give_back c past client (Back.Entry entry) k r =
    past-quiet c.basis past (Event.GiveBack client (Back.Entry entry)) k r refl (λ e. refl) refl (λ e. refl) (λ P h. All-filter P P _ (live past) h (λ x w _. w)) (λ e. refl) (λ e. refl) (λ board. refl)

pub past-step-on : (c : Campaign) (past : List Event) (event : Event) → PastKept c.basis past → HoldsMade c.basis past → BootRuns past event → Allowed c past event → PastKept c.basis (event ∷ past)
past-step-on c past (Event.Boot number time limit found boards) k made b a =
    let r = rows-step-on c past (Event.Boot number time limit found boards) k.rows_kept b a in
    record {
      rows_kept = r.kept;
      steps = steps-boot c.basis past number time limit found boards k.steps;
      taken = taken-boot c.basis past number time limit found boards k.rows_kept k.taken r.goes_on;
      waiting = waiting-boot c.basis past number time limit found boards k.rows_kept k.taken k.waiting;
      marks = marks-boot c past number time limit found boards a.0 k.steps k.taken k.marks r.goes_on a.1;
    }
past-step-on c past (Event.Claim client request fetched answer) k made b a =
    let r = rows-step-on c past (Event.Claim client request fetched answer) k.rows_kept b a in
    record {
      rows_kept = r.kept;
      steps = steps-claim c.basis past client request fetched answer a.0 k.steps a.1;
      taken = taken-claim c.basis past client request fetched answer a.0 k.rows_kept k.taken r.goes_on a.1;
      waiting = waiting-claim c.basis past client request fetched answer a.0 k.rows_kept k.taken k.waiting a.1;
      marks = marks-quiet c.basis past (Event.Claim client request fetched answer) k.marks r.goes_on (λ e. refl) (λ board. refl) refl;
    }
past-step-on c past (Event.Schedule client request answer) k made b a =
    let r = rows-step-on c past (Event.Schedule client request answer) k.rows_kept b a in
    record {
      rows_kept = r.kept;
      steps = steps-quiet c.basis past (Event.Schedule client request answer) k.steps (goes_on-grows (rows c.basis past) _ r.goes_on) (λ e. refl) refl (λ e. refl) k.steps.live_is;
      taken = taken-schedule c.basis past client request answer k.taken r.goes_on a;
      waiting = waiting-schedule c.basis past client request answer k.rows_kept k.taken k.waiting a;
      marks = marks-quiet c.basis past (Event.Schedule client request answer) k.marks r.goes_on (λ e. refl) (λ board. refl) refl;
    }
past-step-on c past (Event.Resume client entry fetched answer stored) k made b a =
    past-resume c.basis past client entry fetched answer stored a.0 k made (rows-step-on c past (Event.Resume client entry fetched answer stored) k.rows_kept b a) a.1
past-step-on c past (Event.Start client entry op) k made b a =
    let r = rows-step-on c past (Event.Start client entry op) k.rows_kept b a in
    record {
      rows_kept = r.kept;
      steps = steps-start c.basis past client entry op a.0 k.steps a.1;
      taken = taken-start c.basis past client entry op a.0 k.taken a.1;
      waiting = waiting-same c.basis past (Event.Start client entry op) k.waiting k.rows_kept.valid.entries refl (λ e _. refl) (λ e _. refl);
      marks = marks-start c.basis past client entry op k.marks;
    }
past-step-on c past (Event.End client entry op outcome told seen) k made b a =
    let r = rows-step-on c past (Event.End client entry op outcome told seen) k.rows_kept b a in
    let st = open-started past entry (record { client = client; entry = entry; op = op }) k.steps.open_are a.open_is in
    record {
      rows_kept = r.kept;
      steps = steps-end c past client entry op outcome told seen k.steps a;
      taken = taken-end c.basis past client entry op outcome told seen k.taken (started-some past entry op st.0 st.1);
      waiting = waiting-same c.basis past (Event.End client entry op outcome told seen) k.waiting k.rows_kept.valid.entries refl (λ e _. refl) (λ e _. refl);
      marks = marks-end c past client entry op outcome told seen k.steps k.taken k.marks a;
    }
past-step-on c past (Event.Finish client entry state stored) k made b a =
    past-advanced c.basis past (Event.Finish client entry state stored) (fate_stored stored) entry state (reason_of (rows c.basis past) entry) (time_of past) k (rows-step-on c past (Event.Finish client entry state stored) k.rows_kept b a) refl
    (let f = a.2 in let s = closed-settled c.basis past entry a.1 stored f.closing in let e : state ≡ closing_stored a.1 stored = f.state_is in rw e s)
    (λ e. refl) refl (λ e. refl) (λ P h. All-filter P P _ (live past) h (λ x w _. w)) (λ e. refl) (λ e. refl) (λ board. refl)
past-step-on c past (Event.Judge client entry version state stored) k made b a =
    past-advanced c.basis past (Event.Judge client entry version state stored) (fate_stored stored) entry state (reason_of (rows c.basis past) entry) (time_of past) k (rows-step-on c past (Event.Judge client entry version state stored) k.rows_kept b a) refl
    (let f = a.2 in let e : state ≡ judge version a.0 = f.state_is in rw e (judged-settled version a.0))
    (λ e. refl) refl (λ e. refl) (λ P h. h) (λ e. refl) (λ e. refl) (λ board. refl)
past-step-on c past (Event.GiveBack client what) k made b a =
    past-give_back c past client what k (rows-step-on c past (Event.GiveBack client what) k.rows_kept b a)
past-step-on c past event k made b a =
    past-quiet c.basis past event k (rows-step-on c past event k.rows_kept b a) refl (λ e. refl) refl (λ e. refl) (λ P h. h) (λ e. refl) (λ e. refl) (λ board. refl)

-- what each legal past keeps, its holds with it
pub record PastHeld (basis : Basis) (past : List Event) : Type 0 where
  pub kept : PastKept basis past
  pub made : HoldsMade basis past

pub past-held-on : (c : Campaign) (past : List Event) → IsHistory c.basis.opening → IsLegalUnlimited c past → PastHeld c.basis past
past-held-on c [] valid legal =
    record {
      kept = record {
        rows_kept = record { valid = record { entries = entries-from 1 c.basis.opening valid.entries; tags = distinct-tags c.basis.opening valid.tags }; doubt_next = tt; doubt_off = λ _. refl };
        steps = steps-none c.basis;
        taken = taken-none c.basis (entries-from 1 c.basis.opening valid.entries);
        waiting = waiting-none c.basis (entries-from 1 c.basis.opening valid.entries);
        marks = marks-none c.basis;
      };
      made = tt;
    }
past-held-on c (event ∷ past) valid legal =
    let old = past-held-on c past valid legal.0 in
    let k = old.kept in
    let r = rows-step-on c past event k.rows_kept legal.1 legal.2 in
    record {
      kept = past-step-on c past event old.kept old.made legal.1 legal.2;
      made = holds-step c past event k.rows_kept.valid.entries r.goes_on legal.2 old.made;
    }

pub past-kept-on : (c : Campaign) (past : List Event) → IsHistory c.basis.opening → IsLegalUnlimited c past → PastKept c.basis past
past-kept-on c past valid legal = let all = past-held-on c past valid legal in all.kept

pub taking-map : (entry : ℕ) (P Q : List Event → Event → Type 0) (past : List Event) → ((before : List Event) (event : Event) → P before event → Q before event) → AtTaking entry P past → AtTaking entry Q past
taking-map entry P Q [] h a = a
taking-map entry P Q (event ∷ past) h a =
    by_test (takes entry event) _
    (λ t. let p : P past event = rw t at a in rw t (h past event p))
    (λ f. let p : AtTaking entry P past = rw f at a in rw f (taking-map entry P Q past h p))

pub unfixed : (basis : Basis) (entry : ℕ) (r : Row) (before : List Event) (event : Event) → TakenBy basis (fixed r) before event → TakenBy basis r before event
unfixed basis entry r before event (request, t, note, w) =
    (request, t, note, record { request_is = w.request_is; tag = w.tag; unstarted = w.unstarted; target_is = w.target_is; device = w.device; digest = w.digest; matches = w.matches; met = w.met; payload = w.payload; whole = w.whole })

pub row-found : (o : Option Row) (row : Row) → option_map fixed o ≡ Some row → (r : Row) × (o ≡ Some r) × (fixed r ≡ row)
row-found None row h = cc
row-found (Some r) row h = (r, refl, cc)

pub entry-taken : (basis : Basis) (past : List Event) (entry : ℕ) → TakenKept basis past → 1 ≤ writes (strokes entry past) → Taken basis past entry
entry-taken basis past entry k w = at (k.begun entry)
  where
    at : (strokes entry past ≡ []) ⊎ Taken basis past entry → Taken basis past entry
    at (inl e) = let h : 1 ≤ 0 = rw e at w in absurd (omega arith)
    at (inr t) = t

-- The journals of boards fit.
abbrev pub JournalsFit : Basis → List Event → List JournalAndView → Type 0
JournalsFit basis past boards =
    (board : ℕ) (b : JournalAndView) → slice_get boards board ≡ Some b → (tail : List Mark) × JournalFits basis past board b.journal tail

-- What is kept of each mark of a journal that fits.
pub journal-kept : (basis : Basis) (past : List Event) (board : ℕ) (journal tail : List Mark) → PastKept basis past → JournalFits basis past board journal tail → AllByRecursion (MarkKept basis past board) journal
journal-kept basis past board journal tail k f =
    let o : OpenMarks basis past board tail = open-marks basis past board tail k.steps k.taken f.tail_is in
    rw f.told_and_tail (All-append (MarkKept basis past board) (told basis past board) tail (k.marks.told_are board) o.kept)

-- A mark of a write is like itself, and names the entry of any mark that it is like.
pub like-self : (mark : Mark) (entry : ℕ) → entry_named mark ≡ Some entry → is_like mark mark ≡ true
like-self Mark.Entered entry n = cc
like-self (Mark.Began e) entry n = eqb-self e
like-self (Mark.Ended e digest) entry n = eqb-self e
like-self Mark.Left entry n = cc

pub like-named : (a b : Mark) (entry : ℕ) → is_like a b ≡ true → entry_named a ≡ Some entry → entry_named b ≡ Some entry
like-named (Mark.Began e) (Mark.Began f) entry h n = ap Some (sym (eqb-true e f h)) ∙ n
like-named (Mark.Ended e digest) (Mark.Ended f digest') entry h n = ap Some (sym (eqb-true e f h)) ∙ n
like-named _ _ entry h n = cc

-- Each mark of a write stands among those that it is like.
abbrev pub IsAmong : List Mark → Mark → Type 0
IsAmong marks mark = (entry : ℕ) → entry_named mark ≡ Some entry → 1 ≤ how_many (is_like mark) marks

pub each-among : (marks : List Mark) → AllByRecursion (IsAmong marks) marks
each-among [] = tt
each-among (m ∷ ms) = (
  λ entry n. rw (like-self m entry n) (omega arith),
  All-map (IsAmong ms) (IsAmong (m ∷ ms)) ms (each-among ms) (λ x h entry n. more x (h entry n)),
)
  where
    more : (x : Mark) → 1 ≤ how_many (is_like x) ms → 1 ≤ how_many (is_like x) (m ∷ ms)
    more x h = by_test (is_like x m) _ (λ t. rw t (omega arith)) (λ t. rw t h)

-- A mark of an entry that is installed on one board stands in no other board's journal.
pub none-like : (basis : Basis) (past : List Event) (board other : ℕ) (mark : Mark) (entry : ℕ) (marks : List Mark) → entry_named mark ≡ Some entry → board_of basis.facts (rows basis past) entry ≡ Some board → other ≢ board → AllByRecursion (MarkKept basis past other) marks → how_many (is_like mark) marks ≡ 0
none-like basis past board other mark entry [] n b d k = refl
none-like basis past board other mark entry (m ∷ ms) n b d k =
    by_test (is_like mark m) _
    (λ t. absurd (d (clash (entry_named m) (like-named mark m entry t n) k.0)))
    (λ t. rw t (none-like basis past board other mark entry ms n b d k.1))
  where
    clash : (o : Option ℕ) → o ≡ Some entry → IfSome o (MarkOf basis past other m) → other ≡ board
    clash None e h = cc
    clash (Some x) e h =
        let same : x ≡ entry = cc in
        let at : board_of basis.facts (rows basis past) x ≡ Some other = h.board_is in
        let at' : board_of basis.facts (rows basis past) x ≡ Some board = rw same b in
        let both : Some other ≡ Some board = sym at ∙ at' in cc

-- What is left to know of one mark, beside what the past keeps.
pub record StandsAlone (boards : List JournalAndView) (board : ℕ) (journal : List Mark) (mark : Mark) : Type 0 where
  pub alone : how_many (is_like mark) journal ≡ 1
  pub nowhere_else : (other : ℕ) (b : JournalAndView) → slice_get boards other ≡ Some b → other ≢ board → how_many (is_like mark) b.journal ≡ 0

pub mark-once : (basis : Basis) (past : List Event) (boards : List JournalAndView) (board : ℕ) (journal : List Mark) (mark : Mark) (entry : ℕ) → PastKept basis past → entry_named mark ≡ Some entry → StandsAlone boards board journal mark → MarkOf basis past board mark entry → (row : Row) × WrittenOnce basis past boards board journal mark entry row
mark-once basis past boards board journal mark entry k n one m =
    let t = entry-taken basis past entry k.taken m.written in
    let r = row-found (row_of (rows basis past) entry) t.row t.row_is in
    let same : fixed r.0 ≡ t.row = r.2 in
    let at : AtTaking entry (TakenBy basis (fixed r.0)) past = subst (λ (x : Row). AtTaking entry (TakenBy basis x) past) (sym same) t.taking in
    let d : digest_of (rows basis past) entry ≡ r.0.digest = ap (λ o. unwrap_or (option_map (λ x. x.digest) o) []) r.1 in (
      r.0,
      record {
        row_is = r.1;
        board_is = ap (λ o. unwrap_or (option_map (λ b. b == board) o) false) m.board_is ∙ eqb-self board;
        alone = one.alone;
        nowhere_else = one.nowhere_else;
        accepted_once = t.accepted_once;
        taken_once = t.once;
        taken_well = taking-map entry (TakenBy basis (fixed r.0)) _ past (unfixed basis entry r.0) at;
        digest = subst (HasDigest mark) d m.digest;
        in_order = k.steps.order entry;
        after_start = k.marks.after board entry mark n;
      },
    )

pub journal-once : (basis : Basis) (past : List Event) (boards : List JournalAndView) (board : ℕ) (b : JournalAndView) (tail : List Mark) → PastKept basis past → JournalsFit basis past boards → JournalFits basis past board b.journal tail → AllByRecursion (MarkOnce basis past boards board b.journal) b.journal
journal-once basis past boards board b tail k all f =
    All-both (MarkKept basis past board) (IsAmong b.journal) (MarkOnce basis past boards board b.journal) b.journal
    (journal-kept basis past board b.journal tail k f) (each-among b.journal) (λ mark h i. at mark (entry_named mark) refl h i)
  where
    o : OpenMarks basis past board tail
    o = open-marks basis past board tail k.steps k.taken f.tail_is

    few : (mark : Mark) (entry : ℕ) → entry_named mark ≡ Some entry → how_many (is_like mark) b.journal ≤ 1
    few mark entry n =
        let sum = how_many-append (is_like mark) (told basis past board) tail in
        let w = few-writes (strokes entry past) (k.steps.order entry) in
        rw f.told_and_tail (omega (arith, sum, w.one, o.few mark entry n, k.marks.few board entry mark n))

    alone : (mark : Mark) (entry : ℕ) → entry_named mark ≡ Some entry → IsAmong b.journal mark → MarkOf basis past board mark entry → StandsAlone boards board b.journal mark
    alone mark entry n i m =
        record {
          alone = omega (arith, few mark entry n, i entry n);
          nowhere_else = λ other c g d. let t = all other c g in
              none-like basis past board other mark entry c.journal n m.board_is d (journal-kept basis past other c.journal t.0 k t.1);
        }

    at : (mark : Mark) (o : Option ℕ) → entry_named mark ≡ o → IfSome o (MarkOf basis past board mark) → IsAmong b.journal mark → IfSome o (λ entry. (row : Row) × WrittenOnce basis past boards board b.journal mark entry row)
    at mark None n h i = tt
    at mark (Some entry) n h i = mark-once basis past boards board b.journal mark entry k n (alone mark entry n i h) h

pub past-once : (basis : Basis) (past : List Event) (boards : List JournalAndView) → PastKept basis past → IsHistory (rows basis past) → JournalsFit basis past boards → OncePast basis past boards
past-once basis past boards k valid f =
    record {
      marks = λ board b e. let t = f board b e in journal-once basis past boards board b t.0 k f t.1;
      tags = valid.tags;
      linked = valid.linked;
      retried = valid.retried;
    }

pub journals-fit : (basis : Basis) (first : List Seen) (past : List Event) (boards : List JournalAndView) → FitsPast basis first past boards → JournalsFit basis past boards
journals-fit basis first past boards f = λ board b e. let t = f.each board b e in let w = t.1 in (t.0, w.journal)

pub taken-once-on : (c : Campaign) (past : List Event) → IsHistory c.basis.opening → IsLegalUnlimited c past → IsTakenOnce c.basis past
taken-once-on c past valid legal =
    let k = past-kept-on c past valid legal in
    record {
      tags = tags-differ (rows c.basis past) k.rows_kept.valid.tags;
      taken = λ entry. taken-at_most c.basis past entry k.taken;
    }

-- ---- the same of legal pasts

pub past-held : (c : Campaign) (past : List Event) → IsHistory c.basis.opening → IsLegal c past → PastHeld c.basis past
past-held c past valid legal = past-held-on c past valid (unlimited c past legal)

pub past-kept : (c : Campaign) (past : List Event) → IsHistory c.basis.opening → IsLegal c past → PastKept c.basis past
past-kept c past valid legal = past-kept-on c past valid (unlimited c past legal)

pub taken-once : (c : Campaign) (past : List Event) → IsHistory c.basis.opening → IsLegal c past → IsTakenOnce c.basis past
taken-once c past valid legal = taken-once-on c past valid (unlimited c past legal)
