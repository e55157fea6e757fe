-- What each past keeps of the steps of its entries.
use Rattle.std.proofs.Common.{◌≡◌, ℕ, true, false, not, List, [], ◌∷◌, ◌++◌, refl, ap, sym, ◌∙◌, ◌<◌, ◌≤◌, ◌+◌, ◌-◌, arith, length, subst}
use Rattle.std.specs.Prelude.{Option, Some, None, Result, ◌==◌, option_map, option_and_then, is_some, find, slice_get}
use Rattle.std.proofs.lemmas.List.{length_push}
use Rattle.std.specs.List.{AllByRecursion}
use Rattle.std.proofs.lemmas.Bool.{eqb-true}
use Rattle.emulated_boards.specs.declared.fault.BoardFault.{BoardFault}
use Rattle.emulated_boards.specs.declared.mark.Mark.{Mark}
use Rattle.fw_facts.specs.declared.seen.Seen.{Seen}
use Rattle.fw_facts.specs.declared.view.DeviceView.{DeviceView}
use Rattle.update_log.proofs.Accepts.{accepts-target}
use Rattle.update_log.proofs.Lists.{All-both, All-filter, All-find, All-map, All-push, by_test, eqb-other, eqb-self, find-filter, find-filter_none, find-passes, find-push_other, find-push_some}
use Rattle.update_log.proofs.Rows.{accepted-claim, found-grows, rows_by-refused}
use Rattle.update_log.proofs.StrokeFacts.{is_open, last_ended, order-start}
use Rattle.update_log.specs.Holding.{blocks_fetched, blocks_fetched_if, holds, live, live_entry, open_steps, request_held, step_open}
use Rattle.update_log.specs.Known.{Basis, Target, asked, known, rows, target, views}
use Rattle.update_log.specs.Legal.{ClaimAllowed, EndAllowed, StartAllowed, next_entry}
use Rattle.update_log.specs.Once.{InOrder, Stroke, strokes}
use Rattle.update_log.specs.Pasts.{is_keeper_fault, time_of}
use Rattle.update_log.specs.Shows.{Campaign}
use Rattle.update_log.specs.Steps.{first_trace, last_number, next_step, op_number, trace, with_step}
use Rattle.update_log.specs.Verdicts.{case_of, verdict}
use Rattle.update_log.specs.declared.answer.ClaimAnswer.{ClaimAnswer}
use Rattle.update_log.specs.declared.answer.ResumeAnswer.{ResumeAnswer}
use Rattle.update_log.specs.declared.decision.Stage.{Stage}
use Rattle.update_log.specs.declared.event.BoardSeen.{BoardSeen}
use Rattle.update_log.specs.declared.event.Event.{Event}
use Rattle.update_log.specs.declared.event.Found.{Found}
use Rattle.update_log.specs.declared.event.Op.{Op}
use Rattle.update_log.specs.declared.event.Stored.{Stored}
use Rattle.update_log.specs.declared.facts.Facts.{Facts}
use Rattle.update_log.specs.declared.live.Held.{Held}
use Rattle.update_log.specs.declared.live.LiveEntry.{LiveEntry}
use Rattle.update_log.specs.declared.live.OpenStep.{OpenStep}
use Rattle.update_log.specs.declared.refusal.FetchNote.{FetchNote}
use Rattle.update_log.specs.declared.request.Request.{Request}
use Rattle.update_log.specs.declared.trace.Trace.{Trace}
use Rattle.update_log.specs.declared.trace.TraceStep.{TraceStep}

-- what is kept of a live entry
pub record EntryKept (basis : Basis) (past : List Event) (entry : ℕ) : Type 0 where
  pub known : entry ≤ length (rows basis past)
  pub open_is : is_open (strokes entry past) ≡ is_some (step_open past entry)
  pub traced_to : (t : Trace) → trace basis entry past ≡ Some t → last_number t.steps ≡ last_ended (strokes entry past)

abbrev pub LiveKept : Basis → List Event → LiveEntry → Type 0
LiveKept basis past l = EntryKept basis past l.entry

-- what is kept of an open step
pub record OpenKept (past : List Event) (s : OpenStep) : Type 0 where
  pub rest : List Stroke
  pub started : strokes s.entry past ≡ Stroke.Started s.op ∷ rest

-- what a past keeps of the steps
pub record StepsKept (basis : Basis) (past : List Event) : Type 0 where
  pub fresh : (entry : ℕ) → length (rows basis past) < entry → strokes entry past ≡ []
  pub live_is : AllByRecursion (LiveKept basis past) (live past)
  pub open_are : AllByRecursion (OpenKept past) (open_steps past)
  pub order : (entry : ℕ) → InOrder (strokes entry past)

-- the strokes of an entry after a start and an end
pub strokes-start_same : (client entry : ℕ) (op : Op) (past : List Event) → strokes entry (Event.Start client entry op ∷ past) ≡ Stroke.Started op ∷ strokes entry past
strokes-start_same client entry op past = rw (eqb-self entry) refl

pub strokes-start_other : (client entry other : ℕ) (op : Op) (past : List Event) → (entry == other) ≡ false → strokes other (Event.Start client entry op ∷ past) ≡ strokes other past
strokes-start_other client entry other op past h = rw h refl

pub strokes-end_other : (client entry other : ℕ) (op : Op) (outcome : Result (Unit {0}) BoardFault) (told : List Mark) (seen : Seen) (past : List Event) → (entry == other) ≡ false → strokes other (Event.End client entry op outcome told seen ∷ past) ≡ strokes other past
strokes-end_other client entry other op outcome told seen past h = rw h refl

pub steps-none : (basis : Basis) → StepsKept basis []
steps-none basis = record { fresh = λ _ _. refl; live_is = tt; open_are = tt; order = λ _. tt }

pub steps-boot : (basis : Basis) (past : List Event) (number time : ℕ) (limit : Option ℕ) (found : Found) (boards : List BoardSeen) → StepsKept basis past → StepsKept basis (Event.Boot number time limit found boards ∷ past)
steps-boot basis past number time limit found boards k =
    record {
      fresh = λ e h. k.fresh e (omega (arith, found-grows found (known basis past).doubt (known basis past).rows));
      live_is = tt;
      open_are = tt;
      order = k.order;
    }

-- an open step's entry has a started stroke
pub open-started : (past : List Event) (entry : ℕ) (s : OpenStep) → AllByRecursion (OpenKept past) (open_steps past) → step_open past entry ≡ Some s → (rest : List Stroke) × (strokes entry past ≡ Stroke.Started s.op ∷ rest)
open-started past entry s a e =
    let w : OpenKept past s = All-find (OpenKept past) (λ x. x.entry == entry) (open_steps past) s a e in
    let same : s.entry ≡ entry = eqb-true s.entry entry (find-passes (λ x. x.entry == entry) (open_steps past) s e) in
    (w.rest, ap (λ e. strokes e past) (sym same) ∙ w.started)

-- a live entry is as it was where the event is of another
pub live-other : (basis : Basis) (past : List Event) (event : Event) (l : LiveEntry) → LiveKept basis past l → length (rows basis past) ≤ length (rows basis (event ∷ past)) → strokes l.entry (event ∷ past) ≡ strokes l.entry past → step_open (event ∷ past) l.entry ≡ step_open past l.entry → trace basis l.entry (event ∷ past) ≡ trace basis l.entry past → LiveKept basis (event ∷ past) l
live-other basis past event l w grows s o t =
    record {
      known = omega (arith, grows, w.known);
      open_is = rw (s, o) w.open_is;
      traced_to = λ tr e. rw s (w.traced_to tr (rw t at e));
    }

-- a live entry after a start
pub live-start : (basis : Basis) (past : List Event) (client entry : ℕ) (op : Op) (l : LiveEntry) → LiveKept basis past l → LiveKept basis (Event.Start client entry op ∷ past) l
live-start basis past client entry op l w =
    by_test (entry == l.entry) _
    (λ t. let e : entry ≡ l.entry = eqb-true entry l.entry t in
    let s : strokes l.entry (Event.Start client entry op ∷ past) ≡ Stroke.Started op ∷ strokes l.entry past = rw t refl in
    record {
      known = w.known;
      open_is = rw s (sym (find-push_some (λ x. x.entry == l.entry) (open_steps past) (record { client = client; entry = entry; op = op }) t));
      traced_to = λ tr h. rw s (w.traced_to tr h);
    })
    (λ f. live-other basis past (Event.Start client entry op) l w (omega arith) (strokes-start_other client entry l.entry op past f)
    (find-push_other (λ x. x.entry == l.entry) (open_steps past) (record { client = client; entry = entry; op = op }) f)
    refl)

-- an open step of another entry stays as it was
pub open-kept_by_start : (past : List Event) (client entry : ℕ) (op : Op) (s : OpenStep) → is_open (strokes entry past) ≡ false → OpenKept past s → OpenKept (Event.Start client entry op ∷ past) s
open-kept_by_start past client entry op s closed w =
    by_test (entry == s.entry) _
    (λ t. let e : entry ≡ s.entry = eqb-true entry s.entry t in
    let bad : is_open (strokes s.entry past) ≡ false = rw e at closed in
    let bad' : true ≡ false = rw w.started at bad in cc)
    (λ f. record { rest = w.rest; started = strokes-start_other client entry s.entry op past f ∙ w.started })

-- a next step is that of a trace
pub next-traced : (o : Option Trace) (op : Op) → option_and_then next_step o ≡ Some op → (t : Trace) × (o ≡ Some t) × (next_step t ≡ Some op)
next-traced None op h = cc
next-traced (Some t) op h = (t, refl, h)

-- what is kept of the live entry of that number
pub live-of : (basis : Basis) (past : List Event) (entry : ℕ) (l : LiveEntry) → AllByRecursion (LiveKept basis past) (live past) → live_entry past entry ≡ Some l → EntryKept basis past entry
live-of basis past entry l a e =
    subst (EntryKept basis past)
    (eqb-true l.entry entry (find-passes (λ x. x.entry == entry) (live past) l e))
    (All-find (LiveKept basis past) (λ x. x.entry == entry) (live past) l a e)

pub steps-start : (basis : Basis) (past : List Event) (client entry : ℕ) (op : Op) (l : LiveEntry) → StepsKept basis past → StartAllowed basis past client entry op l → StepsKept basis (Event.Start client entry op ∷ past)
steps-start basis past client entry op l k a =
    let w : EntryKept basis past entry = live-of basis past entry l k.live_is a.live in
    let known : entry ≤ length (rows basis past) = w.known in
    let closed : is_open (strokes entry past) ≡ false = w.open_is ∙ ap is_some a.closed in
    let n = next-traced (trace basis entry past) op a.next in
    let t : Trace = n.0 in
    let last : last_number t.steps ≡ last_ended (strokes entry past) = w.traced_to t n.1 in
    let order : InOrder (Stroke.Started op ∷ strokes entry past) = order-start (strokes entry past) t op (k.order entry) closed last n.2 in
    record {
      fresh = λ e h. strokes-start_other client entry e op past (eqb-other entry e (λ s. let le : entry ≤ length (rows basis past) = known in omega arith)) ∙ k.fresh e h;
      live_is = All-map (LiveKept basis past) _ (live past) k.live_is (λ l w. live-start basis past client entry op l w);
      open_are =
          All-push (OpenKept (Event.Start client entry op ∷ past)) (open_steps past) (record { client = client; entry = entry; op = op })
          (All-map (OpenKept past) _ (open_steps past) k.open_are (λ s w. open-kept_by_start past client entry op s closed w))
          (record { rest = strokes entry past; started = strokes-start_same client entry op past });
      order = λ e. by_test (entry == e) _
          (λ t. let s : entry ≡ e = eqb-true entry e t in rw t (subst (λ (x : ℕ). InOrder (Stroke.Started op ∷ strokes x past)) s order))
          (λ f. rw f (k.order e));
    }

pub get-last : {X : Type 0} (xs : List X) (x : X) → slice_get (xs ++ x ∷ []) (length xs) ≡ Some x
get-last [] x = refl
get-last (y ∷ ys) x = get-last ys x

-- a trace with one more step ends in it
pub last-pushed : (steps : List TraceStep) (step : TraceStep) → last_number (steps ++ step ∷ []) ≡ op_number step.op
last-pushed steps step =
    let e : length (steps ++ step ∷ []) - 1 ≡ length steps = omega (arith, length_push steps step) in
    rw (e, get-last steps step) refl

pub traced-end : (o : Option Trace) (step : TraceStep) (t : Trace) → option_map (with_step step) o ≡ Some t → last_number t.steps ≡ op_number step.op
traced-end None step t h = cc
traced-end (Some u) step t h = let e : with_step step u ≡ t = cc in rw (← e) (last-pushed u.steps step)

pub first-traced : (o : Option Target) (t : Trace) → option_map first_trace o ≡ Some t → last_number t.steps ≡ 0
first-traced None t h = cc
first-traced (Some u) t h = let e : first_trace u ≡ t = cc in rw (← e) refl

-- a live entry after an end
pub live-end : (basis : Basis) (past : List Event) (client entry : ℕ) (op : Op) (outcome : Result (Unit {0}) BoardFault) (told : List Mark) (seen : Seen) (l : LiveEntry) → LiveKept basis past l → LiveKept basis (Event.End client entry op outcome told seen ∷ past) l
live-end basis past client entry op outcome told seen l w =
    by_test (entry == l.entry) _
    (λ t. let e : entry ≡ l.entry = eqb-true entry l.entry t in
    let s : strokes l.entry (Event.End client entry op outcome told seen ∷ past) ≡ Stroke.Ended op ∷ strokes l.entry past = rw t refl in
    let o : step_open (Event.End client entry op outcome told seen ∷ past) l.entry ≡ None = rw (← e) (find-filter_none (λ x. x.entry == entry) (open_steps past)) in
    record {
      known = w.known;
      open_is = rw (s, o) refl;
      traced_to = λ tr h. let h' : option_map (with_step (record { op = op; outcome = outcome; seen = seen })) (trace basis l.entry past) ≡ Some tr = rw t at h in rw s (traced-end (trace basis l.entry past) (record { op = op; outcome = outcome; seen = seen }) tr h');
    })
    (λ f. live-other basis past (Event.End client entry op outcome told seen) l w (omega arith) (strokes-end_other client entry l.entry op outcome told seen past f)
    (find-filter (λ x. x.entry == l.entry) (λ x. not (x.entry == entry)) (open_steps past)
    (λ x h. let g : x.entry ≡ l.entry = eqb-true x.entry l.entry h in
    let d : (l.entry == entry) ≡ false = eqb-other l.entry entry (λ s. let q : (entry == l.entry) ≡ true = rw s (eqb-self entry) in cc) in
    rw (g, d) refl))
    (rw f refl))

-- the order goes on by the end of the step that was started
pub order-end : (s : List Stroke) (op : Op) (rest : List Stroke) → s ≡ Stroke.Started op ∷ rest → InOrder s → InOrder (Stroke.Ended op ∷ s)
order-end s op rest e i = let j : InOrder (Stroke.Started op ∷ rest) = rw e at i in rw e (refl, j)

pub not-fresh : (s : List Stroke) (op : Op) (rest : List Stroke) → s ≡ Stroke.Started op ∷ rest → s ≡ [] → ⊥
not-fresh s op rest e f = cc

-- a test that two numbers differ
pub not-same : (a b : ℕ) → not (b == a) ≡ true → (a == b) ≡ false
not-same a b h = eqb-other a b (λ s. let t : (b == a) ≡ true = rw s (eqb-self b) in let bad : not true ≡ true = rw t at h in cc)

pub steps-end : (c : Campaign) (past : List Event) (client entry : ℕ) (op : Op) (outcome : Result (Unit {0}) BoardFault) (told : List Mark) (seen : Seen) → StepsKept c.basis past → EndAllowed c.basis c.first past client entry op outcome told seen → StepsKept c.basis (Event.End client entry op outcome told seen ∷ past)
steps-end c past client entry op outcome told seen k a =
    let st = open-started past entry (record { client = client; entry = entry; op = op }) k.open_are a.open_is in
    let ended : InOrder (Stroke.Ended op ∷ strokes entry past) = order-end (strokes entry past) op st.0 st.1 (k.order entry) in
    record {
      fresh = λ e h. strokes-end_other client entry e op outcome told seen past (eqb-other entry e (λ s. not-fresh (strokes entry past) op st.0 st.1 (k.fresh entry (rw s h)))) ∙ k.fresh e h;
      live_is = All-map (LiveKept c.basis past) _ (live past) k.live_is (λ l w. live-end c.basis past client entry op outcome told seen l w);
      open_are = All-filter (OpenKept past) _ (λ s. not (s.entry == entry)) (open_steps past) k.open_are
          (λ s w h. record { rest = w.rest; started = strokes-end_other client entry s.entry op outcome told seen past (not-same entry s.entry h) ∙ w.started });
      order = λ e. by_test (entry == e) _
          (λ t. let s : entry ≡ e = eqb-true entry e t in rw t (subst (λ (x : ℕ). InOrder (Stroke.Ended op ∷ strokes x past)) s ended))
          (λ f. rw f (k.order e));
    }

-- no step of a fresh entry is open
pub fresh-closed : (basis : Basis) (past : List Event) (entry : ℕ) → StepsKept basis past → length (rows basis past) < entry → step_open past entry ≡ None
fresh-closed basis past entry k h = at (step_open past entry) refl
  where
    at : (o : Option OpenStep) → step_open past entry ≡ o → o ≡ None
    at None e = refl
    at (Some s) e =
        let st = open-started past entry s k.open_are e in
        absurd (not-fresh (strokes entry past) s.op st.0 st.1 (k.fresh entry h))

-- the rows have one more, where the change adds one
pub claim-rows : (basis : Basis) (past : List Event) (client : ℕ) (request : Request) (fetched : FetchNote) (entry : ℕ) (t : Target) → target basis.facts (views basis past) request ≡ Some t → length (rows basis (Event.Claim client request fetched (ClaimAnswer.Entry entry) ∷ past)) ≡ length (rows basis past) + 1
claim-rows basis past client request fetched entry t e = rw e (length_push (rows basis past) _)

pub steps-claimed : (basis : Basis) (past : List Event) (client : ℕ) (request : Request) (fetched : FetchNote) (entry : ℕ) → StepsKept basis past → entry ≡ length (rows basis past) + 1 → length (rows basis (Event.Claim client request fetched (ClaimAnswer.Entry entry) ∷ past)) ≡ length (rows basis past) + 1 → StepsKept basis (Event.Claim client request fetched (ClaimAnswer.Entry entry) ∷ past)
steps-claimed basis past client request fetched entry k next grown =
    let new : length (rows basis past) < entry = omega arith in
    let s : strokes entry past ≡ [] = k.fresh entry new in
    let o : step_open past entry ≡ None = fresh-closed basis past entry k new in
    record {
      fresh = λ e h. k.fresh e (omega arith);
      live_is =
          All-push _ (live past) (record { client = client; entry = entry; blocks = blocks_fetched fetched })
          (All-map (LiveKept basis past) _ (live past) k.live_is
          (λ l w. let f : (entry == l.entry) ≡ false = eqb-other entry l.entry (λ q. let le = w.known in omega arith) in
          live-other basis past (Event.Claim client request fetched (ClaimAnswer.Entry entry)) l w (omega arith) refl refl (rw f refl)))
          (record {
            known = omega arith;
            open_is = rw (s, o) refl;
            traced_to = λ t h. let h' : option_map first_trace (target basis.facts (views basis past) request) ≡ Some t = rw (eqb-self entry) at h in
                rw s (first-traced (target basis.facts (views basis past) request) t h');
          });
      open_are = All-map (OpenKept past) _ (open_steps past) k.open_are (λ s w. record { rest = w.rest; started = w.started });
      order = k.order;
    }

-- a claim that was not accepted changes nothing of the steps
pub steps-not_claimed : (basis : Basis) (past : List Event) (client : ℕ) (request : Request) (fetched : FetchNote) (answer : ClaimAnswer) → StepsKept basis past → rows basis (Event.Claim client request fetched answer ∷ past) ≡ rows basis past → live (Event.Claim client request fetched answer ∷ past) ≡ live past → ((entry : ℕ) → trace basis entry (Event.Claim client request fetched answer ∷ past) ≡ trace basis entry past) → StepsKept basis (Event.Claim client request fetched answer ∷ past)
steps-not_claimed basis past client request fetched answer k r l t =
    let len : length (rows basis (Event.Claim client request fetched answer ∷ past)) ≡ length (rows basis past) = ap length r in
    record {
      fresh = λ e h. k.fresh e (omega arith);
      live_is = rw l (All-map (LiveKept basis past) _ (live past) k.live_is
          (λ x w. live-other basis past (Event.Claim client request fetched answer) x w (omega arith) refl refl (t x.entry)));
      open_are = All-map (OpenKept past) _ (open_steps past) k.open_are (λ s w. record { rest = w.rest; started = w.started });
      order = k.order;
    }

pub steps-claim : (basis : Basis) (past : List Event) (client : ℕ) (request : Request) (fetched : FetchNote) (answer : ClaimAnswer) (held : Held) → StepsKept basis past → ClaimAllowed basis past client request fetched answer held → StepsKept basis (Event.Claim client request fetched answer ∷ past)
steps-claim basis past client request fetched (ClaimAnswer.Entry entry) held k a =
    let d = accepted-claim fetched (target basis.facts (views basis past) request) (next_entry basis past) (verdict basis past client request (Stage.Claim held.release)) entry a.answer_is in
    let t = accepts-target (case_of basis past client request (Stage.Claim held.release)) d.0 d.1 d.2 d.3 in
    steps-claimed basis past client request fetched entry k d.4 (claim-rows basis past client request fetched entry t.0 (let u = t.1 in u.found))
steps-claim basis past client request fetched (ClaimAnswer.Kept e state) held k a =
    steps-not_claimed basis past client request fetched (ClaimAnswer.Kept e state) k refl refl (λ _. refl)
steps-claim basis past client request fetched (ClaimAnswer.Refused refusal) held k a =
    steps-not_claimed basis past client request fetched (ClaimAnswer.Refused refusal) k
    (rows_by-refused (is_keeper_fault refusal) (asked basis.facts (time_of past) (live past) (known basis past) (Event.Claim client request fetched (ClaimAnswer.Refused refusal))) (rows basis past))
    refl
    (λ _. refl)

-- an event that starts, ends and takes nothing
pub steps-quiet : (basis : Basis) (past : List Event) (event : Event) → StepsKept basis past → length (rows basis past) ≤ length (rows basis (event ∷ past)) → ((e : ℕ) → strokes e (event ∷ past) ≡ strokes e past) → open_steps (event ∷ past) ≡ open_steps past → ((e : ℕ) → trace basis e (event ∷ past) ≡ trace basis e past) → AllByRecursion (LiveKept basis past) (live (event ∷ past)) → StepsKept basis (event ∷ past)
steps-quiet basis past event k grows s o t l =
    record {
      fresh = λ e h. s e ∙ k.fresh e (omega arith);
      live_is = All-map (LiveKept basis past) _ (live (event ∷ past)) l
          (λ x w. live-other basis past event x w grows (s x.entry) (ap (find (λ y. y.entry == x.entry)) o) (t x.entry));
      open_are = rw o (All-map (OpenKept past) _ (open_steps past) k.open_are (λ x w. record { rest = w.rest; started = s x.entry ∙ w.started }));
      order = λ e. subst InOrder (sym (s e)) (k.order e);
    }

-- no step is open of an entry without one
pub unstarted-closed : (basis : Basis) (past : List Event) (entry : ℕ) → StepsKept basis past → strokes entry past ≡ [] → step_open past entry ≡ None
unstarted-closed basis past entry k h = at (step_open past entry) refl
  where
    at : (o : Option OpenStep) → step_open past entry ≡ o → o ≡ None
    at None e = refl
    at (Some s) e =
        let st = open-started past entry s k.open_are e in
        absurd (not-fresh (strokes entry past) s.op st.0 st.1 h)

pub resumed-traced : (facts : Facts) (views : List DeviceView) (o : Option Request) (t : Trace) → option_and_then (λ r. option_map first_trace (target facts views r)) o ≡ Some t → last_number t.steps ≡ 0
resumed-traced facts views None t h = cc
resumed-traced facts views (Some request) t h = first-traced (target facts views request) t h

pub steps-resumed : (basis : Basis) (past : List Event) (client entry : ℕ) (fetched : Option FetchNote) (stored : Stored) → StepsKept basis past → length (rows basis past) ≤ length (rows basis (Event.Resume client entry fetched ResumeAnswer.Begun stored ∷ past)) → entry ≤ length (rows basis past) → strokes entry past ≡ [] → AllByRecursion (λ l. (entry == l.entry) ≡ false) (live past) → StepsKept basis (Event.Resume client entry fetched ResumeAnswer.Begun stored ∷ past)
steps-resumed basis past client entry fetched stored k grows known s others =
    let o : step_open past entry ≡ None = unstarted-closed basis past entry k s in
    record {
      fresh = λ e h. k.fresh e (omega arith);
      live_is =
          All-push _ (live past) (record { client = client; entry = entry; blocks = blocks_fetched_if fetched })
          (All-both (LiveKept basis past) (λ l. (entry == l.entry) ≡ false) _ (live past) k.live_is others
          (λ l w f. live-other basis past (Event.Resume client entry fetched ResumeAnswer.Begun stored) l w grows refl refl (rw f refl)))
          (record {
            known = omega (arith, grows, known);
            open_is = rw (s, o) refl;
            traced_to = λ t h. let h' : option_and_then (λ r. option_map first_trace (target basis.facts (views basis past) r)) (request_held (holds past) client) ≡ Some t = rw (eqb-self entry) at h in
                rw s (resumed-traced basis.facts (views basis past) (request_held (holds past) client) t h');
          });
      open_are = All-map (OpenKept past) _ (open_steps past) k.open_are (λ s w. record { rest = w.rest; started = w.started });
      order = k.order;
    }
