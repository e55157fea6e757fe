-- No event of another client is about a live entry of a client.
use Rattle.std.proofs.Common.{◌≡◌, ◌≢◌, ℕ, Bool, true, false, not, List, [], ◌∷◌, ◌++◌, refl, ap, sym, ◌∙◌, subst, ◌≤◌, ◌+◌, arith, length}
use Rattle.std.specs.Prelude.{Some, None, ◌==◌, find, option_map}
use Rattle.std.specs.List.{AllByRecursion}
use Rattle.std.proofs.lemmas.Bool.{eqb-true}
use Rattle.daemon_core.proofs.ClaimOpen.{live-found}
use Rattle.history_keeper.specs.declared.row.Row.{Row}
use Rattle.history_keeper.specs.declared.row.RowState.{RowState}
use Rattle.history_keeper.specs.Histories.{IsHistory}
use Rattle.update_log.proofs.LegalOnce.{PastKept, past-kept}
use Rattle.update_log.proofs.TakenKept.{untaken-unstarted}
use Rattle.update_log.proofs.Lists.{All-both, All-find, All-filter, All-map, All-push, by_test, eqb-other, eqb-self, find-filter, find-filter_none, find-passes, find-push_other}
use Rattle.update_log.proofs.Rows.{accepted-claim}
use Rattle.update_log.proofs.StepsKept.{OpenKept, live-of, not-fresh}
use Rattle.update_log.proofs.WaitsOnce.{state_of}
use Rattle.update_log.proofs.WaitsKept.{wait-kept}
use Rattle.update_log.specs.Holding.{blocks_fetched, blocks_fetched_if, is_live, live, live_entry, open_steps, step_open, without_entry}
use Rattle.update_log.specs.Known.{Basis, rows, target, views}
use Rattle.update_log.specs.Legal.{Allowed, IsLegal, may_judge, next_entry}
use Rattle.update_log.specs.Once.{how_many, is_pending, strokes, takes}
use Rattle.update_log.specs.Pasts.{is_boot, is_of}
use Rattle.update_log.specs.Shows.{Campaign}
use Rattle.update_log.specs.Steps.{trace}
use Rattle.update_log.specs.Verdicts.{verdict}
use Rattle.update_log.specs.declared.answer.ClaimAnswer.{ClaimAnswer}
use Rattle.update_log.specs.declared.answer.ResumeAnswer.{ResumeAnswer}
use Rattle.update_log.specs.declared.decision.Stage.{Stage}
use Rattle.update_log.specs.declared.event.Back.{Back}
use Rattle.update_log.specs.declared.event.Event.{Event}
use Rattle.update_log.specs.declared.live.LiveEntry.{LiveEntry}
use Rattle.update_log.specs.declared.live.OpenStep.{OpenStep}
use Rattle.daemon_core.proofs.BoardsQuiet.{open-known}
use Rattle.shared_daemon.proofs.OthersLists.{IsOther}
use Rattle.shared_daemon.specs.Others.{IsOwn}

-- The event takes, steps, ends, judges or gives back the entry.
abbrev pub concerns : ℕ → Event → Bool
concerns entry (Event.Claim client request fetched (ClaimAnswer.Entry taken)) = taken == entry
concerns entry (Event.Resume client taken fetched answer stored) = taken == entry
concerns entry (Event.Start client started op) = started == entry
concerns entry (Event.End client ended op outcome told seen) = ended == entry
concerns entry (Event.Finish client finished state stored) = finished == entry
concerns entry (Event.Judge client judged version state stored) = judged == entry
concerns entry (Event.GiveBack client (Back.Entry given)) = given == entry
concerns entry _ = false

-- Whose step it is.
abbrev IsOwned : List LiveEntry → OpenStep → Type 0
IsOwned entries s = (l : LiveEntry) → find (λ x. x.entry == s.entry) entries ≡ Some l → l.client ≡ s.client

-- Each open step of a live entry is of the entry's client.
abbrev pub StepsOwned : List Event → Type 0
StepsOwned past = AllByRecursion (IsOwned (live past)) (open_steps past)

owned-pushed : (entries : List LiveEntry) (new : LiveEntry) (s : OpenStep) → new.entry ≢ s.entry → IsOwned entries s → IsOwned (entries ++ new ∷ []) s
owned-pushed entries new s n k l h =
    k l (sym (find-push_other (λ x. x.entry == s.entry) entries new (eqb-other new.entry s.entry n)) ∙ h)

owned-left : (entries : List LiveEntry) (entry : ℕ) (s : OpenStep) → IsOwned entries s → IsOwned (without_entry entry entries) s
owned-left entries entry s k l h =
    by_test (s.entry == entry) _
    (λ t. let same : s.entry ≡ entry = eqb-true s.entry entry t in
    let none : find (λ (x : LiveEntry). x.entry == s.entry) (without_entry s.entry entries) ≡ None = find-filter_none (λ (x : LiveEntry). x.entry == s.entry) entries in
    let none' : find (λ (x : LiveEntry). x.entry == s.entry) (without_entry entry entries) ≡ None = subst (λ (n : ℕ). find (λ (x : LiveEntry). x.entry == s.entry) (without_entry n entries) ≡ None) same none in
    let bad : Some l ≡ None = sym h ∙ none' in cc)
    (λ f. k l (sym (find-filter (λ x. x.entry == s.entry) (λ x. not (x.entry == entry)) entries (λ x t. apart x t f)) ∙ h))
  where
    apart : (x : LiveEntry) → (x.entry == s.entry) ≡ true → (s.entry == entry) ≡ false → not (x.entry == entry) ≡ true
    apart x t f =
        let e : x.entry ≡ s.entry = eqb-true x.entry s.entry t in
        let g : (x.entry == entry) ≡ false = ap (λ (n : ℕ). n == entry) e ∙ f in rw g refl

owned-step : (c : Campaign) (past : List Event) (event : Event) → PastKept c.basis past → Allowed c past event → StepsOwned past → StepsOwned (event ∷ past)
owned-step c past (Event.Boot number time limit found boards) k a w = tt
owned-step c past (Event.Claim client request fetched (ClaimAnswer.Entry entry)) k a w =
    let ca = a.1 in
    let d = accepted-claim fetched (target c.basis.facts (views c.basis past) request) (next_entry c.basis past) (verdict c.basis past client request (Stage.Claim a.0.release)) entry ca.answer_is in
    let next : entry ≡ length (rows c.basis past) + 1 = d.4 in
    All-both (OpenKept past) (IsOwned (live past)) _ (open_steps past) k.steps.open_are w
    (λ s o h. owned-pushed (live past) (record { client = client; entry = entry; blocks = blocks_fetched fetched }) s
    (λ e. let le : s.entry ≤ length (rows c.basis past) = open-known c.basis past s k.taken o in omega arith) h)
owned-step c past (Event.Resume client entry fetched ResumeAnswer.Begun stored) k a w =
    let ra = a.1 in
    let pending : is_pending a.0.state ≡ true = (let p : a.0.state ≡ RowState.Pending = ra.pending in rw p refl) in
    let none : how_many (takes entry) past ≡ 0 = k.waiting.untaken entry a.0 ra.row_is pending in
    let fresh : strokes entry past ≡ [] = untaken-unstarted c.basis past entry none (k.taken.begun entry) in
    All-both (OpenKept past) (IsOwned (live past)) _ (open_steps past) k.steps.open_are w
    (λ s o h. owned-pushed (live past) (record { client = client; entry = entry; blocks = blocks_fetched_if fetched }) s
    (λ e. not-fresh (strokes s.entry past) s.op o.rest o.started (subst (λ (n : ℕ). strokes n past ≡ []) e fresh)) h)
owned-step c past (Event.Start client entry op) k a w =
    let s = a.1 in
    All-push (IsOwned (live past)) (open_steps past) (record { client = client; entry = entry; op = op }) w
    (λ l h. let both : Some l ≡ Some a.0 = sym h ∙ s.live in let same : l ≡ a.0 = cc in ap (λ (x : LiveEntry). x.client) same ∙ s.client_is)
owned-step c past (Event.End client entry op outcome told seen) k a w =
    All-filter (IsOwned (live past)) (IsOwned (live past)) (λ s. not (s.entry == entry)) (open_steps past) w (λ s h _. h)
owned-step c past (Event.Finish client entry state stored) k a w =
    All-map (IsOwned (live past)) _ (open_steps past) w (λ s h. owned-left (live past) entry s h)
owned-step c past (Event.GiveBack client (Back.Entry entry)) k a w =
    All-map (IsOwned (live past)) _ (open_steps past) w (λ s h. owned-left (live past) entry s h)
owned-step c past _ k a w = w

pub steps-owned : (c : Campaign) (past : List Event) → IsHistory c.basis.opening → IsLegal c past → StepsOwned past
steps-owned c [] v l = tt
steps-owned c (event ∷ past) v l = owned-step c past event (past-kept c past v l.0) l.2 (steps-owned c past v l.0)

-- The row of a live entry is begun.
pub live-begun : (c : Campaign) (past : List Event) (entry : ℕ) (l : LiveEntry) → IsHistory c.basis.opening → IsLegal c past → live_entry past entry ≡ Some l → state_of (rows c.basis past) entry ≡ Some RowState.Begun
live-begun c past entry l v legal h =
    let k = wait-kept c past v legal in
    let same : l.entry ≡ entry = eqb-true l.entry entry (find-passes (λ x. x.entry == entry) (live past) l h) in
    let s : state_of (rows c.basis past) l.entry ≡ Some RowState.Begun = All-find (λ (m : LiveEntry). state_of (rows c.basis past) m.entry ≡ Some RowState.Begun) (λ x. x.entry == entry) (live past) l k.begun h in
    ap (state_of (rows c.basis past)) (sym same) ∙ s

-- The entry is that of a row.
pub live-known : (c : Campaign) (past : List Event) (entry : ℕ) (l : LiveEntry) → IsHistory c.basis.opening → IsLegal c past → live_entry past entry ≡ Some l → entry ≤ length (rows c.basis past)
live-known c past entry l v legal h = let k = past-kept c past v legal in let w = live-of c.basis past entry l k.steps.live_is h in w.known

not-judged : (past : List Event) (state : RowState) (entry : ℕ) → state ≡ RowState.Begun → is_live (live past) entry ≡ true → may_judge past state entry ≡ true → ⊥
not-judged past state entry s l m =
    let n : not (is_live (live past) entry) ≡ true = subst (λ (x : RowState). may_judge past x entry ≡ true) s m in
    let bad : not true ≡ true = rw l at n in cc

-- So no event of another client is about it.
pub untouched : (c : Campaign) (past : List Event) (event : Event) (client entry : ℕ) (l : LiveEntry) → IsHistory c.basis.opening → IsLegal c past → Allowed c past event → IsOther client event → IsOwn past client entry l
    → concerns entry event ≡ false
untouched c past event client entry l v legal a o own = at event a o.not_of
  where
    begun : state_of (rows c.basis past) entry ≡ Some RowState.Begun
    begun = live-begun c past entry l v legal own.live

    -- an entry of another client is another
    apart : (e other : ℕ) (m : LiveEntry) → (other == client) ≡ false → live_entry past e ≡ Some m → m.client ≡ other → (e == entry) ≡ false
    apart e other m n f w =
        eqb-other e entry (λ s. let g : live_entry past entry ≡ Some m = ap (live_entry past) (sym s) ∙ f in
        let both : Some m ≡ Some l = sym g ∙ own.live in
        let same : m ≡ l = cc in
        let is : other ≡ client = sym w ∙ ap (λ (x : LiveEntry). x.client) same ∙ own.client_is in
        let bad : (other == client) ≡ true = ap (λ (x : ℕ). x == client) is ∙ eqb-self client in cc)

    at : (x : Event) → Allowed c past x → is_of client x ≡ false → concerns entry x ≡ false
    at (Event.Claim other request fetched (ClaimAnswer.Entry e)) b n =
        let ca = b.1 in
        let d = accepted-claim fetched (target c.basis.facts (views c.basis past) request) (next_entry c.basis past) (verdict c.basis past other request (Stage.Claim b.0.release)) e ca.answer_is in
        let next : e ≡ length (rows c.basis past) + 1 = d.4 in
        let le : entry ≤ length (rows c.basis past) = live-known c past entry l v legal own.live in
        eqb-other e entry (λ s. omega arith)
    at (Event.Resume other e fetched answer stored) b n =
        eqb-other e entry (λ s. let ra = b.1 in
        let f : state_of (rows c.basis past) e ≡ Some b.0.state = ap (option_map (λ (r : Row). r.state)) ra.row_is in
        let p : b.0.state ≡ RowState.Pending = ra.pending in
        let g : state_of (rows c.basis past) entry ≡ Some b.0.state = ap (state_of (rows c.basis past)) (sym s) ∙ f in
        let bad : Some RowState.Begun ≡ Some RowState.Pending = sym begun ∙ g ∙ ap Some p in cc)
    at (Event.Start other e op) b n = let s = b.1 in apart e other b.0 n s.live s.client_is
    at (Event.End other e op outcome told seen) b n =
        let w = steps-owned c past v legal in
        let open_is : step_open past e ≡ Some (record { client = other; entry = e; op = op }) = b.open_is in
        let own-of : IsOwned (live past) (record { client = other; entry = e; op = op }) = All-find (IsOwned (live past)) (λ s. s.entry == e) (open_steps past) (record { client = other; entry = e; op = op }) w open_is in
        by_test (e == entry) _
        (λ t. let s : e ≡ entry = eqb-true e entry t in
        let f : live_entry past e ≡ Some l = ap (live_entry past) s ∙ own.live in apart e other l n f (own-of l f))
        (λ f. f)
    at (Event.Finish other e state stored) b n = let s = b.2 in apart e other b.0 n s.live s.client_is
    at (Event.Judge other e version state stored) b n =
        let j = b.2 in
        eqb-other e entry (λ s. let f : state_of (rows c.basis past) e ≡ Some b.0.state = ap (option_map (λ (r : Row). r.state)) j.row_is in
        let g : Some RowState.Begun ≡ Some b.0.state = sym begun ∙ ap (state_of (rows c.basis past)) (sym s) ∙ f in
        let st : b.0.state ≡ RowState.Begun = cc in
        let is : is_live (live past) e ≡ true = ap (is_live (live past)) s ∙ live-found (live past) entry l own.live in
        not-judged past b.0.state e st is j.waits)
    at (Event.GiveBack other (Back.Entry e)) b n = apart e other b.0 n b.1 b.2
    at _ b n = refl

-- What an event that isn't about an entry leaves of it.

not-at : (e entry : ℕ) → (e == entry) ≡ false → (x : ℕ) → (x == entry) ≡ true → not (x == e) ≡ true
not-at e entry n x t =
    by_test (x == e) _
    (λ u. let s : x ≡ entry = eqb-true x entry t in
    let r : x ≡ e = eqb-true x e u in
    let same : e ≡ entry = sym r ∙ s in
    let bad : (e == entry) ≡ true = ap (λ (y : ℕ). y == entry) same ∙ eqb-self entry in cc)
    (λ u. rw u refl)

pub live-same : (past : List Event) (event : Event) (entry : ℕ) → is_boot event ≡ false → concerns entry event ≡ false → live_entry (event ∷ past) entry ≡ live_entry past entry
live-same past (Event.Boot number time limit found boards) entry b n = cc
live-same past (Event.Claim client request fetched (ClaimAnswer.Entry e)) entry b n = find-push_other (λ l. l.entry == entry) (live past) (record { client = client; entry = e; blocks = blocks_fetched fetched }) n
live-same past (Event.Resume client e fetched ResumeAnswer.Begun stored) entry b n = find-push_other (λ l. l.entry == entry) (live past) (record { client = client; entry = e; blocks = blocks_fetched_if fetched }) n
live-same past (Event.Finish client e state stored) entry b n = find-filter (λ l. l.entry == entry) (λ l. not (l.entry == e)) (live past) (λ l t. not-at e entry n l.entry t)
live-same past (Event.GiveBack client (Back.Entry e)) entry b n = find-filter (λ l. l.entry == entry) (λ l. not (l.entry == e)) (live past) (λ l t. not-at e entry n l.entry t)
live-same past _ entry b n = refl

pub step-same : (past : List Event) (event : Event) (entry : ℕ) → is_boot event ≡ false → concerns entry event ≡ false → step_open (event ∷ past) entry ≡ step_open past entry
step-same past (Event.Boot number time limit found boards) entry b n = cc
step-same past (Event.Start client e op) entry b n = find-push_other (λ s. s.entry == entry) (open_steps past) (record { client = client; entry = e; op = op }) n
step-same past (Event.End client e op outcome told seen) entry b n = find-filter (λ s. s.entry == entry) (λ s. not (s.entry == e)) (open_steps past) (λ s t. not-at e entry n s.entry t)
step-same past _ entry b n = refl

pub trace-same : (basis : Basis) (past : List Event) (event : Event) (entry : ℕ) → concerns entry event ≡ false → trace basis entry (event ∷ past) ≡ trace basis entry past
trace-same basis past (Event.Claim client request fetched (ClaimAnswer.Entry e)) entry n = let f : (e == entry) ≡ false = n in rw f refl
trace-same basis past (Event.Resume client e fetched ResumeAnswer.Begun stored) entry n = let f : (e == entry) ≡ false = n in rw f refl
trace-same basis past (Event.End client e op outcome told seen) entry n = let f : (e == entry) ≡ false = n in rw f refl
trace-same basis past _ entry n = refl
