-- What each past keeps of the events that took its entries.
use Rattle.std.proofs.Common.{◌≡◌, ◌≢◌, ℕ, Bool, true, false, List, [], ◌∷◌, ◌++◌, map, refl, ap, sym, ◌∙◌, ◌<◌, ◌≤◌, ◌+◌, arith, ◌⊎◌, inl, inr, length, subst}
use Rattle.std.proofs.lemmas.List.{length_push}
use Rattle.std.proofs.lemmas.Bool.{eqb-true, eq-eqb, and_parts}
use Rattle.std.specs.Prelude.{Option, Some, None, Result, IfSome, ◌==◌, option_map, find, MatchBool, unwrap_or}
use Rattle.std.specs.List.{AllByRecursion}
use Rattle.std.specs.Str.{bytes_eq}
use Rattle.emulated_boards.specs.declared.fault.BoardFault.{BoardFault}
use Rattle.emulated_boards.specs.declared.mark.Mark.{Mark}
use Rattle.fw_facts.specs.declared.seen.Seen.{Seen}
use Rattle.history_keeper.specs.Changes.{changed, with_state}
use Rattle.history_keeper.specs.declared.change.Change.{Change}
use Rattle.history_keeper.specs.declared.row.Row.{Row}
use Rattle.history_keeper.specs.declared.row.RowState.{RowState}
use Rattle.release_catalogue.specs.declared.reference.ReleaseRef.{ReleaseRef}
use Rattle.update_log.proofs.Accepts.{accepts-target, target-device, target-matches, target-met}
use Rattle.update_log.proofs.HoldsMade.{HoldsMade, IsOfRow, request-made, row-within, goes_on-grows}
use Rattle.update_log.proofs.Lists.{All-find, All-map, All-push, by_test, eqb-other, eqb-self, find-passes, find-push_other, find-push_new}
use Rattle.update_log.proofs.Openings.{EntriesFrom, bytes-same}
use Rattle.update_log.proofs.Rows.{accepted-claim, rows_by-refused}
use Rattle.update_log.proofs.RowsKept.{GoesOn, NextChange, RowsKept, claim-not_kept, fixed, fixed_row, goes_on-fixed, no-tag, not_kept, row_of-past, schedule-not_kept, with_state-fixed}
use Rattle.update_log.specs.Holding.{blocks_fetched, blocks_fetched_if, holds, live, request_held}
use Rattle.update_log.specs.Known.{Basis, Fate, Target, doubt, fate_stored, new_row, reason_of, refusal_number, row_of, row_with_tag, rows, rows_by, rows_found, target, views}
use Rattle.update_log.specs.Legal.{ClaimAllowed, ResumeAllowed, ResumeAnswered, ResumeFetched, ScheduleAllowed, ScheduleAnswered, StartAllowed, request_of_row, is_fetched, is_whole, next_entry}
use Rattle.update_log.specs.Once.{AtTaking, TakenBy, accepted, accepts, how_many, is_pending, is_pending_row, strokes, takes}
use Rattle.update_log.specs.Pasts.{is_keeper_fault, time_of}
use Rattle.update_log.specs.Verdicts.{Case, case_of, first_unmet_for, verdict}
use Rattle.update_log.specs.declared.answer.ClaimAnswer.{ClaimAnswer}
use Rattle.update_log.specs.declared.answer.ResumeAnswer.{ResumeAnswer}
use Rattle.update_log.specs.declared.decision.Decision.{Decision}
use Rattle.update_log.specs.declared.decision.Stage.{Stage}
use Rattle.update_log.specs.declared.event.BoardSeen.{BoardSeen}
use Rattle.update_log.specs.declared.event.Event.{Event}
use Rattle.update_log.specs.declared.event.Found.{Found}
use Rattle.update_log.specs.declared.event.Op.{Op}
use Rattle.update_log.specs.declared.event.Stored.{Stored}
use Rattle.update_log.specs.declared.live.Held.{Held}
use Rattle.update_log.specs.declared.live.LiveEntry.{LiveEntry}
use Rattle.update_log.specs.declared.refusal.FetchNote.{FetchNote}
use Rattle.update_log.specs.declared.refusal.Refusal.{Refusal}
use Rattle.update_log.specs.declared.request.Request.{Request}

-- an entry that one event took, whose request was accepted once
pub record Taken (basis : Basis) (past : List Event) (entry : ℕ) : Type 0 where
  pub known : entry ≤ length (rows basis past)
  pub once : how_many (takes entry) past ≡ 1
  pub accepted_once : accepted basis entry past ≡ 1
  pub row : Row
  pub row_is : fixed_row (rows basis past) entry ≡ Some row
  pub taking : AtTaking entry (TakenBy basis row) past

-- what a past keeps of the taken entries
pub record TakenKept (basis : Basis) (past : List Event) : Type 0 where
  pub untaken : (entry : ℕ) → length (rows basis past) < entry → how_many (takes entry) past ≡ 0
  pub unaccepted : (entry : ℕ) → length (rows basis past) < entry → accepted basis entry past ≡ 0
  pub live_taken : AllByRecursion (λ l. Taken basis past l.entry) (live past)
  pub begun : (entry : ℕ) → (strokes entry past ≡ []) ⊎ Taken basis past entry
  pub each : (entry : ℕ) → (how_many (takes entry) past ≡ 0) ⊎ Taken basis past entry

-- it stays taken at an event that takes and accepts another, or none
pub taken-on : (basis : Basis) (past : List Event) (event : Event) (entry : ℕ) → GoesOn (rows basis past) (rows basis (event ∷ past)) → takes entry event ≡ false → accepts entry (doubt basis past) event ≡ false → Taken basis past entry → Taken basis (event ∷ past) entry
taken-on basis past event entry g t a k =
    let grows = goes_on-grows (rows basis past) (rows basis (event ∷ past)) g in
    record {
      known = omega (arith, grows, k.known);
      once = rw t k.once;
      accepted_once = rw a k.accepted_once;
      row = k.row;
      row_is = goes_on-fixed (rows basis past) (rows basis (event ∷ past)) entry g k.known ∙ k.row_is;
      taking = rw t k.taking;
    }

-- what is kept at an event that takes no entry, accepts none but a new one, and starts and ends no step
pub taken-quiet : (basis : Basis) (past : List Event) (event : Event) → TakenKept basis past → GoesOn (rows basis past) (rows basis (event ∷ past)) → ((e : ℕ) → takes e event ≡ false) → ((e : ℕ) → e ≤ length (rows basis past) → accepts e (doubt basis past) event ≡ false) → ((e : ℕ) → length (rows basis (event ∷ past)) < e → accepts e (doubt basis past) event ≡ false) → (live (event ∷ past) ≡ live past) ⊎ AllByRecursion (λ l. Taken basis past l.entry) (live (event ∷ past)) → ((e : ℕ) → (strokes e (event ∷ past) ≡ []) ⊎ Taken basis past e) → TakenKept basis (event ∷ past)
taken-quiet basis past event k g t a b l s =
    let grows = goes_on-grows (rows basis past) (rows basis (event ∷ past)) g in
    record {
      untaken = λ e h. rw (t e) (k.untaken e (omega arith));
      unaccepted = λ e h. rw (b e h) (k.unaccepted e (omega arith));
      live_taken = All-map _ _ (live (event ∷ past)) (lives l) (λ x w. taken-on basis past event x.entry g (t x.entry) (a x.entry w.known) w);
      begun = λ e. begins e (s e);
      each = λ e. goes-on e (k.each e);
    }
  where
    lives : (live (event ∷ past) ≡ live past) ⊎ AllByRecursion (λ l. Taken basis past l.entry) (live (event ∷ past)) → AllByRecursion (λ l. Taken basis past l.entry) (live (event ∷ past))
    lives (inl e) = rw e k.live_taken
    lives (inr h) = h

    begins : (e : ℕ) → (strokes e (event ∷ past) ≡ []) ⊎ Taken basis past e → (strokes e (event ∷ past) ≡ []) ⊎ Taken basis (event ∷ past) e
    begins e (inl n) = inl n
    begins e (inr w) = inr (taken-on basis past event e g (t e) (a e w.known) w)

    goes-on : (e : ℕ) → (how_many (takes e) past ≡ 0) ⊎ Taken basis past e → (how_many (takes e) (event ∷ past) ≡ 0) ⊎ Taken basis (event ∷ past) e
    goes-on e (inl n) = inl (rw (t e) n)
    goes-on e (inr w) = inr (taken-on basis past event e g (t e) (a e w.known) w)

-- a boot accepts a new entry at most
pub boot-accepts : (number time : ℕ) (limit : Option ℕ) (found : Found) (boards : List BoardSeen) (change : Option Change) (rows : List Row) (e : ℕ) → IfSome change (λ c. NextChange c rows) → (e ≤ length rows) ⊎ (length (rows_found found change rows) < e) → accepts e change (Event.Boot number time limit found boards) ≡ false
boot-accepts number time limit Found.Kept boards (Some (Change.Add row)) rows e n h = rw (eqb-other row.entry e (λ s. let q : row.entry ≡ length rows + 1 = n.0 in at h q s)) refl
  where
    at : (e ≤ length rows) ⊎ (length (rows ++ row ∷ []) < e) → row.entry ≡ length rows + 1 → row.entry ≡ e → ⊥
    at (inl h) q s = omega arith
    at (inr h) q s = omega (arith, length_push rows row)
boot-accepts number time limit _ boards _ rows e n h = refl

pub taken-boot : (basis : Basis) (past : List Event) (number time : ℕ) (limit : Option ℕ) (found : Found) (boards : List BoardSeen) → RowsKept basis past → TakenKept basis past → GoesOn (rows basis past) (rows basis (Event.Boot number time limit found boards ∷ past)) → TakenKept basis (Event.Boot number time limit found boards ∷ past)
taken-boot basis past number time limit found boards r k g =
    taken-quiet basis past (Event.Boot number time limit found boards) k g (λ e. refl)
    (λ e h. boot-accepts number time limit found boards (doubt basis past) (rows basis past) e r.doubt_next (inl h))
    (λ e h. boot-accepts number time limit found boards (doubt basis past) (rows basis past) e r.doubt_next (inr h))
    (inr tt)
    k.begun

pub whole-of : (note : FetchNote) (o : Option Target) (t : Target) → o ≡ Some t → is_fetched note o ≡ true → is_whole note t.chosen ≡ true
whole-of note None t e h = cc
whole-of note (Some u) t e h = let s : u ≡ t = cc in ap (λ (v : Target). is_whole note v.chosen) (sym s) ∙ h

-- nothing was started of the next entry
pub unstarted-new : (basis : Basis) (past : List Event) → TakenKept basis past → strokes (length (rows basis past) + 1) past ≡ []
unstarted-new basis past k = at (k.begun (length (rows basis past) + 1))
  where
    at : (strokes (length (rows basis past) + 1) past ≡ []) ⊎ Taken basis past (length (rows basis past) + 1) → strokes (length (rows basis past) + 1) past ≡ []
    at (inl n) = n
    at (inr u) = let le = u.known in absurd (omega arith)

-- nothing was started of an entry that no event took
pub untaken-unstarted : (basis : Basis) (past : List Event) (entry : ℕ) → how_many (takes entry) past ≡ 0 → (strokes entry past ≡ []) ⊎ Taken basis past entry → strokes entry past ≡ []
untaken-unstarted basis past entry none (inl n) = n
untaken-unstarted basis past entry none (inr u) = let one : how_many (takes entry) past ≡ 1 = u.once in let zero_is : how_many (takes entry) past ≡ 0 = none in let bad : 1 ≡ 0 = sym one ∙ zero_is in cc

-- the entry that an accepted claim takes
pub taken-new : (basis : Basis) (past : List Event) (client : ℕ) (request : Request) (fetched : FetchNote) (entry : ℕ) (t : Target) → RowsKept basis past → TakenKept basis past → entry ≡ length (rows basis past) + 1 → target basis.facts (views basis past) request ≡ Some t → first_unmet_for basis.facts client (views basis past) t ≡ None → is_whole fetched t.chosen ≡ true → Taken basis (Event.Claim client request fetched (ClaimAnswer.Entry entry) ∷ past) entry
taken-new basis past client request fetched entry t r k next e met whole =
    let row : Row = new_row (length (rows basis past) + 1) (time_of past) client request RowState.Begun t in
    let new : rows basis (Event.Claim client request fetched (ClaimAnswer.Entry entry) ∷ past) ≡ rows basis past ++ row ∷ [] = rw e refl in
    let fresh : length (rows basis past) < entry = omega arith in
    let none : row_of (rows basis past) entry ≡ None = row_of-past 1 (rows basis past) entry r.valid.entries (omega arith) in
    record {
      known = omega (arith, ap length new, length_push (rows basis past) row);
      once = rw (eqb-self entry, k.untaken entry fresh) refl;
      accepted_once = rw (eqb-self entry, k.unaccepted entry fresh) refl;
      row = fixed row;
      row_is = rw new (ap (option_map fixed) (find-push_new (λ x. x.entry == entry) (rows basis past) row none (eq-eqb (length (rows basis past) + 1) entry (sym next))));
      taking = rw (eqb-self entry) (request, t, fetched, record { request_is = refl; tag = refl; unstarted = unstarted-new basis past k; target_is = e; device = refl; digest = refl; matches = target-matches basis.facts (views basis past) request t e; met = met; payload = refl; whole = whole });
    }

pub taken-claimed : (basis : Basis) (past : List Event) (client : ℕ) (request : Request) (fetched : FetchNote) (entry : ℕ) → TakenKept basis past → entry ≡ length (rows basis past) + 1 → GoesOn (rows basis past) (rows basis (Event.Claim client request fetched (ClaimAnswer.Entry entry) ∷ past)) → Taken basis (Event.Claim client request fetched (ClaimAnswer.Entry entry) ∷ past) entry → TakenKept basis (Event.Claim client request fetched (ClaimAnswer.Entry entry) ∷ past)
taken-claimed basis past client request fetched entry k next g w =
    let event : Event = Event.Claim client request fetched (ClaimAnswer.Entry entry) in
    let grows = goes_on-grows (rows basis past) (rows basis (event ∷ past)) g in
    let other : (e : ℕ) → e ≤ length (rows basis past) → (entry == e) ≡ false = λ e h. eqb-other entry e (λ s. omega arith) in
    let after : (e : ℕ) → length (rows basis (event ∷ past)) < e → (entry == e) ≡ false = λ e h. eqb-other entry e (λ s. let le = w.known in omega arith) in
    record {
      untaken = λ e h. rw (after e h) (k.untaken e (omega arith));
      unaccepted = λ e h. rw (after e h) (k.unaccepted e (omega arith));
      live_taken =
          All-push _ (live past) (record { client = client; entry = entry; blocks = blocks_fetched fetched })
          (All-map _ _ (live past) k.live_taken (λ x u. taken-on basis past event x.entry g (other x.entry u.known) (other x.entry u.known) u))
          w;
      begun = λ e. begins e (k.begun e);
      each = λ e. by_test (entry == e) _ (λ t. let s : entry ≡ e = eqb-true entry e t in inr (subst (Taken basis (Event.Claim client request fetched (ClaimAnswer.Entry entry) ∷ past)) s w)) (λ f. goes-on e f (k.each e));
    }
  where
    begins : (e : ℕ) → (strokes e past ≡ []) ⊎ Taken basis past e → (strokes e past ≡ []) ⊎ Taken basis (Event.Claim client request fetched (ClaimAnswer.Entry entry) ∷ past) e
    begins e (inl n) = inl n
    begins e (inr u) =
        let f : (entry == e) ≡ false = eqb-other entry e (λ s. let le = u.known in omega arith) in
        inr (taken-on basis past (Event.Claim client request fetched (ClaimAnswer.Entry entry)) e g f f u)

    goes-on : (e : ℕ) → (entry == e) ≡ false → (how_many (takes e) past ≡ 0) ⊎ Taken basis past e → (how_many (takes e) (Event.Claim client request fetched (ClaimAnswer.Entry entry) ∷ past) ≡ 0) ⊎ Taken basis (Event.Claim client request fetched (ClaimAnswer.Entry entry) ∷ past) e
    goes-on e f (inl n) = inl (rw f n)
    goes-on e f (inr u) = inr (taken-on basis past (Event.Claim client request fetched (ClaimAnswer.Entry entry)) e g f f u)

pub taken-claim : (basis : Basis) (past : List Event) (client : ℕ) (request : Request) (fetched : FetchNote) (answer : ClaimAnswer) (held : Held) → RowsKept basis past → TakenKept basis past → GoesOn (rows basis past) (rows basis (Event.Claim client request fetched answer ∷ past)) → ClaimAllowed basis past client request fetched answer held → TakenKept basis (Event.Claim client request fetched answer ∷ past)
taken-claim basis past client request fetched (ClaimAnswer.Entry entry) held r k g a =
    let d = accepted-claim fetched (target basis.facts (views basis past) request) (next_entry basis past) (verdict basis past client request (Stage.Claim held.release)) entry a.answer_is in
    let k' : Case = case_of basis past client request (Stage.Claim held.release) in
    let u = accepts-target k' d.0 d.1 d.2 d.3 in
    let t : Target = u.0 in
    let has = u.1 in
    taken-claimed basis past client request fetched entry k d.4 g
    (taken-new basis past client request fetched entry t r k d.4 has.found (target-met k' t has.none) (whole-of fetched (target basis.facts (views basis past) request) t has.found d.5))
taken-claim basis past client request fetched (ClaimAnswer.Kept e state) held r k g a =
    taken-quiet basis past (Event.Claim client request fetched (ClaimAnswer.Kept e state)) k g (λ e. refl) (λ e h. refl) (λ e h. refl) (inl refl) k.begun
taken-claim basis past client request fetched (ClaimAnswer.Refused refusal) held r k g a =
    taken-quiet basis past (Event.Claim client request fetched (ClaimAnswer.Refused refusal)) k g (λ e. refl) (λ e h. refl) (λ e h. refl) (inl refl) k.begun

pub taken-start : (basis : Basis) (past : List Event) (client entry : ℕ) (op : Op) (l : LiveEntry) → TakenKept basis past → StartAllowed basis past client entry op l → TakenKept basis (Event.Start client entry op ∷ past)
taken-start basis past client entry op l k a =
    taken-quiet basis past (Event.Start client entry op) k (inl refl) (λ e. refl) (λ e h. refl) (λ e h. refl) (inl refl)
    (λ e. by_test (entry == e) _
    (λ t. let s : entry ≡ e = eqb-true entry e t in inr (subst (Taken basis past) s w))
    (λ f. rw f (k.begun e)))
  where
    w : Taken basis past entry
    w = subst (Taken basis past) (eqb-true l.entry entry (find-passes (λ x. x.entry == entry) (live past) l a.live)) (All-find (λ x. Taken basis past x.entry) (λ x. x.entry == entry) (live past) l k.live_taken a.live)

pub taken-end : (basis : Basis) (past : List Event) (client entry : ℕ) (op : Op) (outcome : Result (Unit {0}) BoardFault) (told : List Mark) (seen : Seen) → TakenKept basis past → strokes entry past ≢ [] → TakenKept basis (Event.End client entry op outcome told seen ∷ past)
taken-end basis past client entry op outcome told seen k n =
    taken-quiet basis past (Event.End client entry op outcome told seen) k (inl refl) (λ e. refl) (λ e h. refl) (λ e h. refl) (inl refl)
    (λ e. by_test (entry == e) _
    (λ t. let s : entry ≡ e = eqb-true entry e t in inr (subst (Taken basis past) s (w (k.begun entry))))
    (λ f. rw f (k.begun e)))
  where
    w : (strokes entry past ≡ []) ⊎ Taken basis past entry → Taken basis past entry
    w (inl e) = absurd (n e)
    w (inr t) = t

-- no row of the opening is pending past its end
pub none-pending : (n : ℕ) (rows : List Row) (e : ℕ) → EntriesFrom n rows → n + length rows ≤ e → how_many (is_pending_row e) rows ≡ 0
none-pending n [] e k h = refl
none-pending n (r ∷ rows) e k h =
    let f : (r.entry == e) ≡ false = eqb-other r.entry e (λ s. let q : r.entry ≡ n = k.0 in omega arith) in
    rw f (none-pending (n + 1) rows e k.1 (omega arith))

pub taken-none : (basis : Basis) → EntriesFrom 1 basis.opening → TakenKept basis []
taken-none basis h =
    record { untaken = λ _ _. refl; unaccepted = λ e g. none-pending 1 basis.opening e h (omega arith); live_taken = tt; begun = λ _. inl refl; each = λ _. inl refl }

-- a pending row is one that no event took, and whose request was accepted once
pub record WaitingKept (basis : Basis) (past : List Event) : Type 0 where
  pub untaken : (e : ℕ) (row : Row) → row_of (rows basis past) e ≡ Some row → is_pending row.state ≡ true → how_many (takes e) past ≡ 0
  pub accepted_once : (e : ℕ) (row : Row) → row_of (rows basis past) e ≡ Some row → is_pending row.state ≡ true → accepted basis e past ≡ 1

-- the change advances the row of that entry
abbrev pub advances : Change → ℕ → Bool
advances (Change.Add row) e = false
advances (Change.Advance entry state reason time) e = entry == e

-- a pending row of changed rows is an old one that the change doesn't advance, or is the one added
abbrev pub CameAbout : Change → List Row → ℕ → Row → Type 0
CameAbout change rows e row =
    ((row_of rows e ≡ Some row) × (advances change e ≡ false)) ⊎ ((change ≡ Change.Add row) × (row.entry ≡ e))

pub map-row : (f : Row → Row) (rows : List Row) (e : ℕ) → ((r : Row) → (f r).entry ≡ r.entry) → row_of (map f rows) e ≡ option_map f (row_of rows e)
map-row f [] e h = refl
map-row f (r ∷ rows) e h =
    let rest : row_of (map f rows) e ≡ option_map f (row_of rows e) = map-row f rows e h in
    by_test (r.entry == e) _
    (λ t. let u : ((f r).entry == e) ≡ true = ap (λ n. n == e) (h r) ∙ t in rw (u, t) refl)
    (λ t. let u : ((f r).entry == e) ≡ false = ap (λ n. n == e) (h r) ∙ t in rw (u, t) rest)

pub came-advance : (entry : ℕ) (state : RowState) (reason time : ℕ) (rows : List Row) (e : ℕ) (row : Row) (o : Option Row) → row_of rows e ≡ o → is_pending state ≡ false → option_map (with_state entry state reason time) o ≡ Some row → is_pending row.state ≡ true → CameAbout (Change.Advance entry state reason time) rows e row
came-advance entry state reason time rows e row None f n h p = cc
came-advance entry state reason time rows e row (Some old) f n h p =
    let at : old.entry ≡ e = eqb-true old.entry e (find-passes (λ r. r.entry == e) rows old f) in
    let new : with_state entry state reason time old ≡ row = cc in
    by_test (old.entry == entry) _
    (λ t. let made : with_state entry state reason time old ≡ record old { state = state; reason = reason; time_changed = time } = rw t refl in
    let same : state ≡ row.state = ap (λ (r : Row). r.state) (sym made ∙ new) in
    let bad : is_pending row.state ≡ false = subst (λ (x : RowState). is_pending x ≡ false) same n in cc)
    (λ t. let made : with_state entry state reason time old ≡ old = rw t refl in
    let same : old ≡ row = sym made ∙ new in
    inl (f ∙ ap Some same, eqb-other entry e (λ s. let bad : (old.entry == entry) ≡ true = eq-eqb old.entry entry (at ∙ sym s) in cc)))

pub came-add : (new : Row) (rows : List Row) (e : ℕ) (row : Row) (o : Option Row) → row_of rows e ≡ o → row_of (rows ++ new ∷ []) e ≡ Some row → CameAbout (Change.Add new) rows e row
came-add new rows e row (Some old) f h =
    let k : row_of (rows ++ new ∷ []) e ≡ Some old = find-push_old (λ r. r.entry == e) rows new old f in
    let same : old ≡ row = (let q : Some old ≡ Some row = sym k ∙ h in cc) in
    inl (f ∙ ap Some same, refl)
  where
    find-push_old : {X : Type 0} (p : X → Bool) (xs : List X) (x y : X) → find p xs ≡ Some y → find p (xs ++ x ∷ []) ≡ Some y
    find-push_old p [] x y n = cc
    find-push_old p (z ∷ zs) x y n =
        by_test (p z) _
        (λ u. let m : Some z ≡ Some y = rw u at n in rw u m)
        (λ u. let m : find p zs ≡ Some y = rw u at n in rw u (find-push_old p zs x y m))
came-add new rows e row None f h =
    by_test (new.entry == e) _
    (λ t. let k : row_of (rows ++ new ∷ []) e ≡ Some new = find-push_new (λ r. r.entry == e) rows new f t in
    let same : new ≡ row = (let q : Some new ≡ Some row = sym k ∙ h in cc) in
    inr (ap (λ r. Change.Add r) same, ap (λ (r : Row). r.entry) (sym same) ∙ eqb-true new.entry e t))
    (λ t. let k : row_of (rows ++ new ∷ []) e ≡ None = find-push_other (λ r. r.entry == e) rows new t ∙ f in
    let bad : Some row ≡ None = sym h ∙ k in cc)

pub came-about : (change : Change) (rows : List Row) (e : ℕ) (row : Row) → NextChange change rows → row_of (changed change rows) e ≡ Some row → is_pending row.state ≡ true → CameAbout change rows e row
came-about (Change.Add new) rows e row n h p = came-add new rows e row (row_of rows e) refl h
came-about (Change.Advance entry state reason time) rows e row n h p =
    came-advance entry state reason time rows e row (row_of rows e) refl n
    (sym (map-row (with_state entry state reason time) rows e (λ r. ap (λ (x : Row). x.entry) (with_state-fixed entry state reason time r))) ∙ h) p

-- an event that changes no row, and takes and accepts no entry of one
pub waiting-same : (basis : Basis) (past : List Event) (event : Event) → WaitingKept basis past → EntriesFrom 1 (rows basis past) → rows basis (event ∷ past) ≡ rows basis past → ((e : ℕ) → e ≤ length (rows basis past) → takes e event ≡ false) → ((e : ℕ) → e ≤ length (rows basis past) → accepts e (doubt basis past) event ≡ false) → WaitingKept basis (event ∷ past)
waiting-same basis past event k v r t a =
    record {
      untaken = λ e row f p. let f' : row_of (rows basis past) e ≡ Some row = rw (← r) f in
          rw (t e (row-within (rows basis past) e row v f')) (k.untaken e row f' p);
      accepted_once = λ e row f p. let f' : row_of (rows basis past) e ≡ Some row = rw (← r) f in
          rw (a e (row-within (rows basis past) e row v f')) (k.accepted_once e row f' p);
    }

-- an event that makes a change
pub waiting-changed : (basis : Basis) (past : List Event) (event : Event) (change : Change) → WaitingKept basis past → TakenKept basis past → EntriesFrom 1 (rows basis past) → rows basis (event ∷ past) ≡ changed change (rows basis past) → NextChange change (rows basis past) → ((e : ℕ) → e ≤ length (rows basis past) → advances change e ≡ false → takes e event ≡ false) → ((e : ℕ) → e ≤ length (rows basis past) → accepts e (doubt basis past) event ≡ false) → ((row : Row) → change ≡ Change.Add row → is_pending row.state ≡ true → (takes row.entry event ≡ false) × (accepts row.entry (doubt basis past) event ≡ true)) → WaitingKept basis (event ∷ past)
waiting-changed basis past event change k t v r n tk ac new =
    record {
      untaken = λ e row f p. (at e row p (came-about change (rows basis past) e row n (rw (← r) f) p)).0;
      accepted_once = λ e row f p. (at e row p (came-about change (rows basis past) e row n (rw (← r) f) p)).1;
    }
  where
    next : (c : Change) (row : Row) → c ≡ Change.Add row → NextChange c (rows basis past) → row.entry ≡ length (rows basis past) + 1
    next (Change.Add r) row e n = let s : r ≡ row = cc in ap (λ (x : Row). x.entry) (sym s) ∙ n.0
    next (Change.Advance entry state reason time) row e n = cc

    at : (e : ℕ) (row : Row) → is_pending row.state ≡ true → CameAbout change (rows basis past) e row → (how_many (takes e) (event ∷ past) ≡ 0) × (accepted basis e (event ∷ past) ≡ 1)
    at e row p (inl c) =
        let known : e ≤ length (rows basis past) = row-within (rows basis past) e row v c.0 in
        (rw (tk e known c.1) (k.untaken e row c.0 p), rw (ac e known) (k.accepted_once e row c.0 p))
    at e row p (inr c) =
        let m = new row c.0 p in
        let fresh : length (rows basis past) < e = (let q = next change row c.0 n in let w : row.entry ≡ e = c.1 in omega arith) in
        let tk' : takes e event ≡ false = subst (λ (x : ℕ). takes x event ≡ false) c.1 m.0 in
        let ac' : accepts e (doubt basis past) event ≡ true = subst (λ (x : ℕ). accepts x (doubt basis past) event ≡ true) c.1 m.1 in
        (rw tk' (t.untaken e fresh), rw (ac', t.unaccepted e fresh) refl)

-- an event that may advance a row
pub waiting-advanced : (basis : Basis) (past : List Event) (event : Event) (fate : Fate) (entry : ℕ) (state : RowState) (reason time : ℕ) → WaitingKept basis past → TakenKept basis past → EntriesFrom 1 (rows basis past) → rows basis (event ∷ past) ≡ rows_by fate (Some (Change.Advance entry state reason time)) (rows basis past) → is_pending state ≡ false → ((e : ℕ) → takes e event ≡ false) → ((e : ℕ) → accepts e (doubt basis past) event ≡ false) → WaitingKept basis (event ∷ past)
waiting-advanced basis past event Fate.Made entry state reason time k t v r n tk ac =
    waiting-changed basis past event (Change.Advance entry state reason time) k t v r n (λ e _ _. tk e) (λ e _. ac e) (λ row h. cc)
waiting-advanced basis past event Fate.Doubtful entry state reason time k t v r n tk ac =
    waiting-same basis past event k v r (λ e _. tk e) (λ e _. ac e)
waiting-advanced basis past event Fate.Dropped entry state reason time k t v r n tk ac =
    waiting-same basis past event k v r (λ e _. tk e) (λ e _. ac e)

pub waiting-boot : (basis : Basis) (past : List Event) (number time : ℕ) (limit : Option ℕ) (found : Found) (boards : List BoardSeen) → RowsKept basis past → TakenKept basis past → WaitingKept basis past → WaitingKept basis (Event.Boot number time limit found boards ∷ past)
waiting-boot basis past number time limit found boards r t k = at found (doubt basis past) refl
  where
    old : (found : Found) (e : ℕ) → e ≤ length (rows basis past) → accepts e (doubt basis past) (Event.Boot number time limit found boards) ≡ false
    old found e h = boot-accepts number time limit found boards (doubt basis past) (rows basis past) e r.doubt_next (inl h)

    at : (found : Found) (o : Option Change) → doubt basis past ≡ o → WaitingKept basis (Event.Boot number time limit found boards ∷ past)
    at Found.Kept (Some change) d =
        waiting-changed basis past (Event.Boot number time limit Found.Kept boards) change k t r.valid.entries (rw d refl)
        (let n : IfSome (doubt basis past) (λ c. NextChange c (rows basis past)) = r.doubt_next in rw d at n)
        (λ e _ _. refl)
        (old Found.Kept)
        (λ row h p. (refl, rw (d, h, eqb-self row.entry) p))
    at Found.Kept None d = waiting-same basis past (Event.Boot number time limit Found.Kept boards) k r.valid.entries (rw d refl) (λ e _. refl) (old Found.Kept)
    at Found.Plain o d = waiting-same basis past (Event.Boot number time limit Found.Plain boards) k r.valid.entries refl (λ e _. refl) (old Found.Plain)
    at Found.Lost o d = waiting-same basis past (Event.Boot number time limit Found.Lost boards) k r.valid.entries refl (λ e _. refl) (old Found.Lost)
    at Found.Fault o d = waiting-same basis past (Event.Boot number time limit Found.Fault boards) k r.valid.entries refl (λ e _. refl) (old Found.Fault)

-- a scheduled entry is the next one, and was accepted
pub accepted-schedule : (next : ℕ) (d : Decision) (entry : ℕ) → ScheduleAnswered next d (ClaimAnswer.Entry entry) → (device : ℕ) × (blocks : ℕ) × (release : ReleaseRef) × (d ≡ Decision.Accept device release blocks) × (entry ≡ next)
accepted-schedule next (Decision.Kept e s) entry h = cc
accepted-schedule next (Decision.Refused r) entry h = cc
accepted-schedule next (Decision.Accept device release blocks) entry (inl e) = (device, blocks, release, refl, cc)
accepted-schedule next (Decision.Accept device release blocks) entry (inr e) = cc

-- the target of a scheduled request
pub schedule-target : (basis : Basis) (past : List Event) (client : ℕ) (request : Request) (entry : ℕ) → ScheduleAllowed basis past client request (ClaimAnswer.Entry entry) → (entry ≡ length (rows basis past) + 1) × ((t : Target) × (target basis.facts (views basis past) request ≡ Some t))
schedule-target basis past client request entry a =
    let d = accepted-schedule (next_entry basis past) (verdict basis past client request Stage.Schedule) entry a.answer_is in
    let t = accepts-target (case_of basis past client request Stage.Schedule) d.0 d.1 d.2 d.3 in
    (d.4, (t.0, (let u = t.1 in u.found)))

pub taken-schedule : (basis : Basis) (past : List Event) (client : ℕ) (request : Request) (answer : ClaimAnswer) → TakenKept basis past → GoesOn (rows basis past) (rows basis (Event.Schedule client request answer ∷ past)) → ScheduleAllowed basis past client request answer → TakenKept basis (Event.Schedule client request answer ∷ past)
taken-schedule basis past client request (ClaimAnswer.Entry entry) k g a =
    let s = schedule-target basis past client request entry a in
    let next : entry ≡ length (rows basis past) + 1 = s.0 in
    let grown : length (rows basis (Event.Schedule client request (ClaimAnswer.Entry entry) ∷ past)) ≡ length (rows basis past) + 1 = (let e = s.1.1 in rw e (length_push (rows basis past) _)) in
    taken-quiet basis past (Event.Schedule client request (ClaimAnswer.Entry entry)) k g (λ e. refl)
    (λ e h. eqb-other entry e (λ q. omega arith)) (λ e h. eqb-other entry e (λ q. omega arith)) (inl refl) k.begun
taken-schedule basis past client request (ClaimAnswer.Kept e state) k g a =
    taken-quiet basis past (Event.Schedule client request (ClaimAnswer.Kept e state)) k g (λ e. refl) (λ e h. refl) (λ e h. refl) (inl refl) k.begun
taken-schedule basis past client request (ClaimAnswer.Refused refusal) k g a =
    taken-quiet basis past (Event.Schedule client request (ClaimAnswer.Refused refusal)) k g (λ e. refl) (λ e h. refl) (λ e h. refl) (inl refl) k.begun

pub waiting-schedule : (basis : Basis) (past : List Event) (client : ℕ) (request : Request) (answer : ClaimAnswer) → RowsKept basis past → TakenKept basis past → WaitingKept basis past → ScheduleAllowed basis past client request answer → WaitingKept basis (Event.Schedule client request answer ∷ past)
waiting-schedule basis past client request (ClaimAnswer.Entry entry) r t k a =
    let s = schedule-target basis past client request entry a in
    let next : entry ≡ length (rows basis past) + 1 = s.0 in
    let row : Row = new_row (length (rows basis past) + 1) (time_of past) client request RowState.Pending s.1.0 in
    let d = schedule-not_kept (next_entry basis past) (verdict basis past client request Stage.Schedule) (ClaimAnswer.Entry entry) a.answer_is refl in
    let tag : row_with_tag (rows basis past) request.tag ≡ None = not_kept (case_of basis past client request Stage.Schedule) d in
    waiting-changed basis past (Event.Schedule client request (ClaimAnswer.Entry entry)) (Change.Add row) k t r.valid.entries
    (let e = s.1.1 in rw e refl)
    (refl, no-tag (rows basis past) request.tag tag)
    (λ e _ _. refl)
    (λ e h. eqb-other entry e (λ q. omega arith))
    (λ x h p. let same : row ≡ x = cc in (refl, eq-eqb entry x.entry (next ∙ ap (λ (y : Row). y.entry) same)))
waiting-schedule basis past client request (ClaimAnswer.Kept e state) r t k a =
    waiting-same basis past (Event.Schedule client request (ClaimAnswer.Kept e state)) k r.valid.entries refl (λ e _. refl) (λ e _. refl)
waiting-schedule basis past client request (ClaimAnswer.Refused refusal) r t k a =
    waiting-same basis past (Event.Schedule client request (ClaimAnswer.Refused refusal)) k r.valid.entries
    (rows_by-refused (is_keeper_fault refusal) _ (rows basis past)) (λ e _. refl) (λ e _. refl)

-- the rows after an accepted claim
pub claim-adds : (basis : Basis) (past : List Event) (client : ℕ) (request : Request) (fetched : FetchNote) (entry : ℕ) (t : Target) → target basis.facts (views basis past) request ≡ Some t → rows basis (Event.Claim client request fetched (ClaimAnswer.Entry entry) ∷ past) ≡ changed (Change.Add (new_row (length (rows basis past) + 1) (time_of past) client request RowState.Begun t)) (rows basis past)
claim-adds basis past client request fetched entry t e = rw e refl

pub waiting-claim : (basis : Basis) (past : List Event) (client : ℕ) (request : Request) (fetched : FetchNote) (answer : ClaimAnswer) (held : Held) → RowsKept basis past → TakenKept basis past → WaitingKept basis past → ClaimAllowed basis past client request fetched answer held → WaitingKept basis (Event.Claim client request fetched answer ∷ past)
waiting-claim basis past client request fetched (ClaimAnswer.Entry entry) held r t k a =
    let d = accepted-claim fetched (target basis.facts (views basis past) request) (next_entry basis past) (verdict basis past client request (Stage.Claim held.release)) entry a.answer_is in
    let next : entry ≡ length (rows basis past) + 1 = d.4 in
    let u = accepts-target (case_of basis past client request (Stage.Claim held.release)) d.0 d.1 d.2 d.3 in
    let row : Row = new_row (length (rows basis past) + 1) (time_of past) client request RowState.Begun u.0 in
    let n = claim-not_kept fetched (target basis.facts (views basis past) request) (next_entry basis past) (verdict basis past client request (Stage.Claim held.release)) (ClaimAnswer.Entry entry) a.answer_is refl in
    let tag : row_with_tag (rows basis past) request.tag ≡ None = not_kept (case_of basis past client request (Stage.Claim held.release)) n in
    waiting-changed basis past (Event.Claim client request fetched (ClaimAnswer.Entry entry)) (Change.Add row) k t r.valid.entries
    (claim-adds basis past client request fetched entry u.0 (let w = u.1 in w.found))
    (refl, no-tag (rows basis past) request.tag tag)
    (λ e h _. eqb-other entry e (λ q. omega arith))
    (λ e h. eqb-other entry e (λ q. omega arith))
    (λ x h p. let same : row ≡ x = cc in let bad : is_pending RowState.Begun ≡ true = ap (λ (y : Row). is_pending y.state) same ∙ p in cc)
waiting-claim basis past client request fetched (ClaimAnswer.Kept e state) held r t k a =
    waiting-same basis past (Event.Claim client request fetched (ClaimAnswer.Kept e state)) k r.valid.entries refl (λ e _. refl) (λ e _. refl)
waiting-claim basis past client request fetched (ClaimAnswer.Refused refusal) held r t k a =
    waiting-same basis past (Event.Claim client request fetched (ClaimAnswer.Refused refusal)) k r.valid.entries
    (rows_by-refused (is_keeper_fault refusal) _ (rows basis past)) (λ e _. refl) (λ e _. refl)

-- a resume that began was decided so, with its hold and a whole payload
pub accepted-resume : (note : FetchNote) (t : Option Target) (d : Decision) → ResumeAnswered note t d ResumeAnswer.Begun → (device : ℕ) × (blocks : ℕ) × (release : ReleaseRef) × (d ≡ Decision.Accept device release blocks) × (is_fetched note t ≡ true)
accepted-resume note t (Decision.Kept e s) h = absurd h
accepted-resume note t (Decision.Refused r) h = cc
accepted-resume note t (Decision.Accept device release blocks) h = at (is_fetched note t) refl h
  where
    at : (b : Bool) → is_fetched note t ≡ b → MatchBool b ((ResumeAnswer.Begun ≡ ResumeAnswer.Begun) ⊎ (ResumeAnswer.Begun ≡ ResumeAnswer.Refused Refusal.KeeperFault)) (ResumeAnswer.Begun ≡ ResumeAnswer.Refused (Refusal.Payload note)) → (device' : ℕ) × (blocks' : ℕ) × (release' : ReleaseRef) × (Decision.Accept device release blocks ≡ Decision.Accept device' release' blocks') × (is_fetched note t ≡ true)
    at true w k = (device, blocks, release, refl, w)
    at false w k = cc

-- the event that resumes a pending row takes its entry
pub taken-by_resume : (basis : Basis) (past : List Event) (client entry : ℕ) (fetched : Option FetchNote) (stored : Stored) (row : Row) → HoldsMade basis past → strokes entry past ≡ [] → ResumeAllowed basis past client entry fetched ResumeAnswer.Begun stored row → TakenBy basis (fixed row) past (Event.Resume client entry fetched ResumeAnswer.Begun stored)
taken-by_resume basis past client entry fetched stored row made fresh a = at fetched a.fetched_is
  where
    zero_client : client ≡ 0
    zero_client = a.client_is

    entry_is : row.entry ≡ entry
    entry_is = eqb-true row.entry entry (find-passes (λ r. r.entry == entry) (rows basis past) row a.row_is)

    at : (fetched : Option FetchNote) → ResumeFetched basis past entry fetched ResumeAnswer.Begun → TakenBy basis (fixed row) past (Event.Resume client entry fetched ResumeAnswer.Begun stored)
    at None f = absurd f.2
    at (Some note) f =
        let held : Held = f.0 in
        let k : Case = case_of basis past 0 held.request (Stage.Resume entry held.release) in
        let d = accepted-resume note (target basis.facts (views basis past) held.request) (verdict basis past 0 held.request (Stage.Resume entry held.release)) f.3 in
        let u = accepts-target k d.0 d.1 d.2 d.3 in
        let t : Target = u.0 in
        let has = u.1 in
        let r : row_of (rows basis past) entry ≡ Some row = a.row_is in
        let e : target basis.facts (views basis past) held.request ≡ Some t = has.found in
        let met : first_unmet_for basis.facts row.client (views basis past) t ≡ None = (let m = target-met k t has.none in rw r at m) in
        let both = and_parts _ (unwrap_or (option_map (λ x. bytes_eq x.digest t.chosen.release.digest) (row_of (rows basis past) entry)) true) has.that in
        let that : bytes_eq row.digest t.chosen.release.digest ≡ true = rw r at both.1 in
        let hold_is : request_held (holds past) client ≡ Some held.request = rw zero_client (ap (option_map (λ h. h.request)) f.1) in
        let of_row : IsOfRow (rows basis past) held = All-find (IsOfRow (rows basis past)) (λ (x : Held). x.client == 0) (holds past) held made f.1 in
        let own : held.request ≡ request_of_row row = request-made (rows basis past) held entry row of_row f.2 r in (
          held.request,
          t,
          note,
          record {
            request_is = hold_is;
            tag = ap (λ (x : Request). x.tag) own;
            unstarted = subst (λ (x : ℕ). strokes x past ≡ []) (sym entry_is) fresh;
            target_is = e;
            device = target-device basis.facts (views basis past) held.request row.device t (ap (λ (x : Request). x.device) own) e;
            digest = sym (bytes-same row.digest t.chosen.release.digest that);
            matches = target-matches basis.facts (views basis past) held.request t e;
            met = met;
            payload = refl;
            whole = whole-of note (target basis.facts (views basis past) held.request) t e d.4;
          },
        )

-- the entry that a resume takes
pub taken-resumed : (basis : Basis) (past : List Event) (client entry : ℕ) (fetched : Option FetchNote) (stored : Stored) (row : Row) → HoldsMade basis past → RowsKept basis past → TakenKept basis past → WaitingKept basis past → GoesOn (rows basis past) (rows basis (Event.Resume client entry fetched ResumeAnswer.Begun stored ∷ past)) → ResumeAllowed basis past client entry fetched ResumeAnswer.Begun stored row → TakenKept basis (Event.Resume client entry fetched ResumeAnswer.Begun stored ∷ past)
taken-resumed basis past client entry fetched stored row made r k q g a =
    record {
      untaken = λ e h. rw (other-past e h) (k.untaken e (omega (arith, grows)));
      unaccepted = λ e h. k.unaccepted e (omega (arith, grows));
      live_taken =
          All-push _ (live past) (record { client = client; entry = entry; blocks = blocks_fetched_if fetched })
          (All-map _ _ (live past) k.live_taken (λ x u. taken-on basis past event x.entry g (others x.entry u) refl u))
          here;
      begun = λ e. begins e (k.begun e);
      each = λ e. by_test (entry == e) _ (λ t. let s : entry ≡ e = eqb-true entry e t in inr (subst (Taken basis (Event.Resume client entry fetched ResumeAnswer.Begun stored ∷ past)) s here)) (λ f. goes-on e f (k.each e));
    }
  where
    event : Event
    event = Event.Resume client entry fetched ResumeAnswer.Begun stored

    grows : length (rows basis past) ≤ length (rows basis (Event.Resume client entry fetched ResumeAnswer.Begun stored ∷ past))
    grows = goes_on-grows (rows basis past) _ g

    pending : is_pending row.state ≡ true
    pending = let p : row.state ≡ RowState.Pending = a.pending in rw p refl

    found : row_of (rows basis past) entry ≡ Some row
    found = a.row_is

    known : entry ≤ length (rows basis past)
    known = row-within (rows basis past) entry row r.valid.entries found

    none : how_many (takes entry) past ≡ 0
    none = q.untaken entry row found pending

    others : (e : ℕ) → Taken basis past e → (entry == e) ≡ false
    others e u = eqb-other entry e (λ s. let one : how_many (takes e) past ≡ 1 = u.once in let zero_is : how_many (takes e) past ≡ 0 = subst (λ (x : ℕ). how_many (takes x) past ≡ 0) s none in let bad : 1 ≡ 0 = sym one ∙ zero_is in cc)

    other-past : (e : ℕ) → length (rows basis (Event.Resume client entry fetched ResumeAnswer.Begun stored ∷ past)) < e → (entry == e) ≡ false
    other-past e h = eqb-other entry e (λ s. omega (arith, grows, known))

    here : Taken basis (Event.Resume client entry fetched ResumeAnswer.Begun stored ∷ past) entry
    here = record {
      known = omega (arith, grows, known);
      once = rw (eqb-self entry, none) refl;
      accepted_once = q.accepted_once entry row found pending;
      row = fixed row;
      row_is = goes_on-fixed (rows basis past) (rows basis (Event.Resume client entry fetched ResumeAnswer.Begun stored ∷ past)) entry g known ∙ ap (option_map fixed) found;
      taking = rw (eqb-self entry) (taken-by_resume basis past client entry fetched stored row made (untaken-unstarted basis past entry none (k.begun entry)) a);
    }

    begins : (e : ℕ) → (strokes e past ≡ []) ⊎ Taken basis past e → (strokes e past ≡ []) ⊎ Taken basis (Event.Resume client entry fetched ResumeAnswer.Begun stored ∷ past) e
    begins e (inl n) = inl n
    begins e (inr u) = inr (taken-on basis past (Event.Resume client entry fetched ResumeAnswer.Begun stored) e g (others e u) refl u)

    goes-on : (e : ℕ) → (entry == e) ≡ false → (how_many (takes e) past ≡ 0) ⊎ Taken basis past e → (how_many (takes e) (Event.Resume client entry fetched ResumeAnswer.Begun stored ∷ past) ≡ 0) ⊎ Taken basis (Event.Resume client entry fetched ResumeAnswer.Begun stored ∷ past) e
    goes-on e f (inl n) = inl (rw f n)
    goes-on e f (inr u) = inr (taken-on basis past (Event.Resume client entry fetched ResumeAnswer.Begun stored) e g f refl u)

pub taken-resume : (basis : Basis) (past : List Event) (client entry : ℕ) (fetched : Option FetchNote) (answer : ResumeAnswer) (stored : Stored) (row : Row) → HoldsMade basis past → RowsKept basis past → TakenKept basis past → WaitingKept basis past → GoesOn (rows basis past) (rows basis (Event.Resume client entry fetched answer stored ∷ past)) → ResumeAllowed basis past client entry fetched answer stored row → TakenKept basis (Event.Resume client entry fetched answer stored ∷ past)
taken-resume basis past client entry fetched ResumeAnswer.Begun stored row made r k q g a = taken-resumed basis past client entry fetched stored row made r k q g a
taken-resume basis past client entry fetched (ResumeAnswer.Refused refusal) stored row made r k q g a =
    taken-quiet basis past (Event.Resume client entry fetched (ResumeAnswer.Refused refusal) stored) k g (λ e. refl) (λ e h. refl) (λ e h. refl) (inl refl) k.begun

pub waiting-resume : (basis : Basis) (past : List Event) (client entry : ℕ) (fetched : Option FetchNote) (answer : ResumeAnswer) (stored : Stored) (row : Row) → RowsKept basis past → TakenKept basis past → WaitingKept basis past → ResumeAllowed basis past client entry fetched answer stored row → WaitingKept basis (Event.Resume client entry fetched answer stored ∷ past)
waiting-resume basis past client entry fetched ResumeAnswer.Begun stored row r k q a =
    let yes_is : stored ≡ Stored.Yes = a.stored_is in
    let reason : ℕ = reason_of (rows basis past) entry in
    waiting-changed basis past (Event.Resume client entry fetched ResumeAnswer.Begun stored) (Change.Advance entry RowState.Begun reason (time_of past)) q k r.valid.entries
    (ap (λ s. rows_by (fate_stored s) (Some (Change.Advance entry RowState.Begun reason (time_of past))) (rows basis past)) yes_is)
    refl (λ e _ n. n) (λ e _. refl) (λ x h. cc)
waiting-resume basis past client entry fetched (ResumeAnswer.Refused refusal) stored row r k q a =
    by_test (is_keeper_fault refusal) _
    (λ t. waiting-advanced basis past event (fate_stored stored) entry RowState.Begun (reason_of (rows basis past) entry) (time_of past) q k r.valid.entries (rw t refl) refl (λ e. refl) (λ e. refl))
    (λ t. waiting-advanced basis past event (fate_stored stored) entry RowState.Failed (refusal_number refusal) (time_of past) q k r.valid.entries (rw t refl) refl (λ e. refl) (λ e. refl))
  where
    event : Event
    event = Event.Resume client entry fetched (ResumeAnswer.Refused refusal) stored

-- no row of entries from n on has a lower one
pub none-below : (n : ℕ) (rows : List Row) (e : ℕ) → EntriesFrom n rows → e < n → how_many (is_pending_row e) rows ≡ 0
none-below n [] e k h = refl
none-below n (r ∷ rows) e k h =
    let f : (r.entry == e) ≡ false = eqb-other r.entry e (λ s. let q : r.entry ≡ n = k.0 in omega arith) in
    rw f (none-below (n + 1) rows e k.1 (omega arith))

-- the opening's pending rows wait
pub waiting-none : (basis : Basis) → EntriesFrom 1 basis.opening → WaitingKept basis []
waiting-none basis v = record { untaken = λ _ _ _ _. refl; accepted_once = λ e row f p. one-pending 1 basis.opening e row v f p }
  where
    one-pending : (n : ℕ) (rows : List Row) (e : ℕ) (row : Row) → EntriesFrom n rows → row_of rows e ≡ Some row → is_pending row.state ≡ true → how_many (is_pending_row e) rows ≡ 1
    one-pending n [] e row v f p = cc
    one-pending n (r ∷ rows) e row v f p =
        by_test (r.entry == e) _
        (λ t. let same : r ≡ row = (let h : Some r ≡ Some row = rw t at f in cc) in
        let p' : is_pending r.state ≡ true = ap (λ (x : Row). is_pending x.state) same ∙ p in
        let none : how_many (is_pending_row e) rows ≡ 0 = none-below (n + 1) rows e v.1 (let at : r.entry ≡ e = eqb-true r.entry e t in let q : r.entry ≡ n = v.0 in omega arith) in
        rw (t, p', none) refl)
        (λ t. let rest : row_of rows e ≡ Some row = rw t at f in rw t (one-pending (n + 1) rows e row v.1 rest p))

-- No entry is taken twice.
pub taken-at_most : (basis : Basis) (past : List Event) (entry : ℕ) → TakenKept basis past → how_many (takes entry) past ≤ 1
taken-at_most basis past entry k = at (k.each entry)
  where
    at : (how_many (takes entry) past ≡ 0) ⊎ Taken basis past entry → how_many (takes entry) past ≤ 1
    at (inl n) = omega arith
    at (inr t) = let one = t.once in omega arith
