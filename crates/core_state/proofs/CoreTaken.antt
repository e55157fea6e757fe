-- The traces of the live entries after a legal event.
use Rattle.std.proofs.Common.{◌≡◌, ℕ, zero, suc, true, false, List, [], ◌∷◌, refl, ap, sym, ◌∙◌, ◌<◌, ◌+◌, arith, length}
use Rattle.std.specs.Prelude.{Option, Some, IfSome, All, ◌==◌, option_map, slice_index_or}
use Rattle.std.specs.List.{AllByRecursion}
use Rattle.history_keeper.specs.declared.row.Row.{Row}
use Rattle.history_keeper.specs.declared.row.RowState.{RowState}
use Rattle.history_keeper.specs.Histories.{IsHistory}
use Rattle.update_log.proofs.Accepts.{accepts-target}
use Rattle.core_state.proofs.CoreTraces.{Tied, each-tied, tied-left, tied-stepped, tied-taken}
use Rattle.update_log.proofs.LegalOnce.{PastKept, live-others, past-held-on, past-kept-on}
use Rattle.update_log.proofs.Lists.{All-map, eqb-other, eqb-self}
use Rattle.update_log.proofs.Rows.{accepted-claim}
use Rattle.update_log.proofs.StepsFew.{end-few}
use Rattle.update_log.proofs.TakenKept.{taken-by_resume, untaken-unstarted}
use Rattle.update_log.proofs.HoldsMade.{HoldsMade}
use Rattle.core_state.specs.CoreSteps.{HasPlace, traces_on}
use Rattle.update_log.specs.Holding.{holds, live, request_held}
use Rattle.update_log.specs.Known.{Basis, Target, rows, target, views}
use Rattle.update_log.specs.Legal.{IsLegalUnlimited, ResumeAllowed, next_entry}
use Rattle.update_log.specs.Once.{how_many, is_pending, strokes, takes}
use Rattle.update_log.specs.Shows.{Campaign}
use Rattle.update_log.specs.Steps.{first_trace, trace, traced}
use Rattle.update_log.specs.Verdicts.{case_of, verdict}
use Rattle.update_log.specs.declared.answer.ClaimAnswer.{ClaimAnswer}
use Rattle.update_log.specs.declared.answer.ResumeAnswer.{ResumeAnswer}
use Rattle.update_log.specs.declared.decision.Stage.{Stage}
use Rattle.update_log.specs.declared.event.Back.{Back}
use Rattle.update_log.specs.declared.event.Event.{Event}
use Rattle.update_log.specs.declared.event.Stored.{Stored}
use Rattle.update_log.specs.declared.refusal.FetchNote.{FetchNote}
use Rattle.update_log.specs.declared.request.Request.{Request}
use Rattle.update_log.specs.declared.trace.Trace.{Trace}
use Rattle.update_log.specs.declared.trace.Traced.{Traced}

-- The traces kept are those that a past says.
abbrev pub TiedTo : Basis → List Event → List Traced → Type 0
TiedTo basis past traces = Tied (λ e. trace basis e past) traces (live past)

-- After an event, over what the devices and the holds were before it.
abbrev pub After : Basis → List Event → Event → List Traced → Type 0
After basis past event traces = TiedTo basis (event ∷ past) (traces_on basis.facts (views basis past) (holds past) event traces)

tied-claim : (basis : Basis) (past : List Event) (client : ℕ) (request : Request) (fetched : FetchNote) (entry : ℕ) (traces : List Traced) (t : Target)
    → TiedTo basis past traces → target basis.facts (views basis past) request ≡ Some t
    → AllByRecursion (λ l. (entry == l.entry) ≡ false) (live past)
    → After basis past (Event.Claim client request fetched (ClaimAnswer.Entry entry)) traces
tied-claim basis past client request fetched entry traces t h e others =
    tied-taken (λ n. trace basis n past) (λ n. trace basis n (Event.Claim client request fetched (ClaimAnswer.Entry entry) ∷ past)) traces (live past)
    _ (option_map first_trace (target basis.facts (views basis past) request)) (first_trace t)
    h
    (All-map (λ l. (entry == l.entry) ≡ false) _ (live past) others (λ l f. rw f refl))
    (ap (λ (o : Option Target). option_map first_trace o) e)
    (rw (eqb-self entry) refl)

tied-resume : (basis : Basis) (past : List Event) (client entry : ℕ) (fetched : Option FetchNote) (stored : Stored) (traces : List Traced) (t : Trace)
    → TiedTo basis past traces → traced basis.facts (views basis past) (request_held (holds past) client) ≡ Some t
    → AllByRecursion (λ l. (entry == l.entry) ≡ false) (live past)
    → After basis past (Event.Resume client entry fetched ResumeAnswer.Begun stored) traces
tied-resume basis past client entry fetched stored traces t h e others =
    tied-taken (λ n. trace basis n past) (λ n. trace basis n (Event.Resume client entry fetched ResumeAnswer.Begun stored ∷ past)) traces (live past)
    _ (traced basis.facts (views basis past) (request_held (holds past) client)) t
    h
    (All-map (λ l. (entry == l.entry) ≡ false) _ (live past) others (λ l f. rw f refl))
    e
    (rw (eqb-self entry) refl)

resume-others : (basis : Basis) (past : List Event) (client entry : ℕ) (fetched : Option FetchNote) (stored : Stored) (row : Row)
    → PastKept basis past → ResumeAllowed basis past client entry fetched ResumeAnswer.Begun stored row → AllByRecursion (λ l. (entry == l.entry) ≡ false) (live past)
resume-others basis past client entry fetched stored row k a =
    let pending : is_pending row.state ≡ true = (let p : row.state ≡ RowState.Pending = a.pending in rw p refl) in
    let none : how_many (takes entry) past ≡ 0 = k.waiting.untaken entry row a.row_is pending in
    live-others basis past entry none k.taken.live_taken

-- What a resumption begins with.
resume-traced : (basis : Basis) (past : List Event) (client entry : ℕ) (fetched : Option FetchNote) (stored : Stored) (row : Row)
    → HoldsMade basis past → strokes entry past ≡ [] → ResumeAllowed basis past client entry fetched ResumeAnswer.Begun stored row → (t : Trace) × (traced basis.facts (views basis past) (request_held (holds past) client) ≡ Some t)
resume-traced basis past client entry fetched stored row made fresh a =
    let b = taken-by_resume basis past client entry fetched stored row made fresh a in
    let request = b.0 in
    let t = b.1 in
    let is = b.3 in
    (first_trace t, ap (λ (o : Option Request). traced basis.facts (views basis past) o) is.request_is ∙ ap (λ (o : Option Target). option_map first_trace o) is.target_is)

pub tied-after : (c : Campaign) (past : List Event) (event : Event) (traces : List Traced)
    → IsHistory c.basis.opening → IsLegalUnlimited c (event ∷ past) → TiedTo c.basis past traces → After c.basis past event traces
tied-after c past (Event.Boot number time limit found boards) traces v l h = refl
tied-after c past (Event.Claim client request fetched (ClaimAnswer.Entry entry)) traces v l h =
    let k = past-kept-on c past v l.0 in
    let s = k.steps in
    let held = l.2.0 in
    let a = l.2.1 in
    let d = accepted-claim fetched (target c.basis.facts (views c.basis past) request) (next_entry c.basis past) (verdict c.basis past client request (Stage.Claim held.release)) entry a.answer_is in
    let next : entry ≡ length (rows c.basis past) + 1 = d.4 in
    let t = accepts-target (case_of c.basis past client request (Stage.Claim held.release)) d.0 d.1 d.2 d.3 in
    tied-claim c.basis past client request fetched entry traces t.0 h (let u = t.1 in u.found)
    (All-map _ (λ l. (entry == l.entry) ≡ false) (live past) s.live_is (λ m w. eqb-other entry m.entry (λ q. let le = w.known in omega arith)))
tied-after c past (Event.Resume client entry fetched ResumeAnswer.Begun stored) traces v l h =
    let both = past-held-on c past v l.0 in
    let k = both.kept in
    let row = l.2.0 in
    let a = l.2.1 in
    let pending : is_pending row.state ≡ true = (let p : row.state ≡ RowState.Pending = a.pending in rw p refl) in
    let none : how_many (takes entry) past ≡ 0 = k.waiting.untaken entry row a.row_is pending in
    let t = resume-traced c.basis past client entry fetched stored row both.made (untaken-unstarted c.basis past entry none (k.taken.begun entry)) a in
    tied-resume c.basis past client entry fetched stored traces t.0 h t.1
    (resume-others c.basis past client entry fetched stored row k a)
tied-after c past (Event.End client entry op outcome told seen) traces v l h =
    tied-stepped entry (record { op = op; outcome = outcome; seen = seen }) (λ e. trace c.basis e past) traces (live past) h
tied-after c past (Event.Finish client entry state stored) traces v l h =
    tied-left entry (λ e. trace c.basis e past) traces (live past) h
tied-after c past (Event.GiveBack client (Back.Entry entry)) traces v l h =
    tied-left entry (λ e. trace c.basis e past) traces (live past) h
tied-after c past _ traces v l h = h

-- What holds of each, in the form that a loop takes.
all-at : {X : Type 0} (P : X → Type 0) (xs : List X) → AllByRecursion P xs → (k : ℕ) (d : X) → k < length xs → P (slice_index_or xs k d)
all-at P [] a k d lt = absurd (omega arith)
all-at P (x ∷ xs) a zero d lt = a.0
all-at P (x ∷ xs) a (suc k) d lt = all-at P xs a.1 k d (omega arith)

place-of : (f : ℕ → Option Trace) (entry : ℕ) (t : Traced) → IfSome (f entry) (λ t. length t.steps < 6) → f t.entry ≡ Some t.trace → t.entry ≡ entry → length t.trace.steps < 6
place-of f entry t few e q = let g : f entry ≡ Some t.trace = ap f (sym q) ∙ e in rw g at few

-- An entry that ends a step has place for it.
pub places : (c : Campaign) (past : List Event) (event : Event) (traces : List Traced)
    → IsHistory c.basis.opening → IsLegalUnlimited c (event ∷ past) → TiedTo c.basis past traces → All (HasPlace event) traces
places c past (Event.End client entry op outcome told seen) traces v l h =
    let few : IfSome (trace c.basis entry past) (λ t. length t.steps < 6) = end-few c past client entry op outcome told seen v l in
    all-at (HasPlace (Event.End client entry op outcome told seen)) traces
    (All-map _ _ traces (each-tied (λ e. trace c.basis e past) traces (live past) h)
    (λ t e. place-of (λ e. trace c.basis e past) entry t few e))
places c past _ traces v l h = λ k d lt. tt
