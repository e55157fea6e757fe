-- What an event of another client leaves of rows.
use Rattle.std.proofs.Common.{◌≡◌, ℕ, Bool, true, false, List, [], ◌∷◌, ◌++◌, map, refl, ap, sym, ◌∙◌, subst, inl, inr}
use Rattle.std.specs.Prelude.{Option, Some, None, IfSome, IsSome, ◌==◌, option_map}
use Rattle.std.proofs.lemmas.Bool.{eqb-true, eq-eqb}
use Rattle.history_keeper.specs.Changes.{with_state}
use Rattle.history_keeper.specs.declared.change.Change.{Change}
use Rattle.history_keeper.specs.declared.row.Row.{Row}
use Rattle.history_keeper.specs.declared.row.RowState.{RowState}
use Rattle.history_keeper.specs.Histories.{IsHistory}
use Rattle.update_log.proofs.Lists.{by_test, eqb-other}
use Rattle.update_log.proofs.RowsKept.{GoesOn, fixed, map-fixed, with_state-fixed}
use Rattle.update_log.proofs.WaitsOnce.{state_of}
use Rattle.update_log.specs.Holding.{live}
use Rattle.update_log.specs.Known.{Basis, Fate, Known, Target, known, resumption, fate, asked, row_of, rows, rows_by, target, views_in}
use Rattle.update_log.specs.Legal.{Allowed, IsLegal, may_judge}
use Rattle.update_log.specs.Pasts.{is_boot, is_of, is_keeper_fault, time_of}
use Rattle.update_log.specs.Shows.{Campaign}
use Rattle.update_log.specs.declared.answer.ResumeAnswer.{ResumeAnswer}
use Rattle.update_log.specs.declared.event.Event.{Event}
use Rattle.update_log.specs.declared.facts.Facts.{Facts}
use Rattle.update_log.specs.declared.live.LiveEntry.{LiveEntry}
use Rattle.shared_daemon.proofs.OthersLists.{IsOther, find-grown}
use Rattle.shared_daemon.proofs.OthersEntries.{concerns, live-begun}

-- The change leaves the row of the entry.
abbrev Spares : ℕ → Change → Type 0
Spares entry (Change.Add row) = Unit {0}
Spares entry (Change.Advance advanced state reason time) = (advanced == entry) ≡ false

row-apart : (e : ℕ) (state : RowState) (reason time : ℕ) (all : List Row) (entry : ℕ) → (e == entry) ≡ false → row_of (map (with_state e state reason time) all) entry ≡ row_of all entry
row-apart e state reason time [] entry n = refl
row-apart e state reason time (r ∷ rest) entry n =
    let more : row_of (map (with_state e state reason time) rest) entry ≡ row_of rest entry = row-apart e state reason time rest entry n in
    by_test (r.entry == entry) _
    (λ t. let s : r.entry ≡ entry = eqb-true r.entry entry t in
    let apart : (r.entry == e) ≡ false = eqb-other r.entry e (λ q. let same : e ≡ entry = sym q ∙ s in let bad : (e == entry) ≡ true = eq-eqb e entry same in cc) in
    rw (apart, t) refl)
    (λ f. by_test (r.entry == e) _ (λ u. rw (u, f) more) (λ u. rw (u, f) more))

row-by : (fate : Fate) (change : Option Change) (all : List Row) (entry : ℕ) (row : Row) → IfSome change (Spares entry) → row_of all entry ≡ Some row → row_of (rows_by fate change all) entry ≡ Some row
row-by Fate.Made (Some (Change.Add new)) all entry row n h = find-grown (λ r. r.entry == entry) all (new ∷ []) row h
row-by Fate.Made (Some (Change.Advance e state reason time)) all entry row n h = row-apart e state reason time all entry n ∙ h
row-by _ _ all entry row n h = h

-- The event asks for another state of the entry's row.
abbrev pub advances : ℕ → Event → Bool
advances entry (Event.Resume client taken fetched answer stored) = taken == entry
advances entry (Event.Finish client finished state stored) = finished == entry
advances entry (Event.Judge client judged version state stored) = judged == entry
advances entry _ = false

added-spares : (entry : ℕ) (o : Option Target) (f : Target → Row) → IfSome (option_map (λ t. Change.Add (f t)) o) (Spares entry)
added-spares entry None f = tt
added-spares entry (Some t) f = tt

resumed-spares : (entry time : ℕ) (k : Known) (e : ℕ) (answer : ResumeAnswer) → (e == entry) ≡ false → IfSome (resumption time k e answer) (Spares entry)
resumed-spares entry time k e ResumeAnswer.Begun n = n
resumed-spares entry time k e (ResumeAnswer.Refused refusal) n = by_test (is_keeper_fault refusal) _ (λ t. rw t n) (λ t. rw t n)

asked-spares : (facts : Facts) (time : ℕ) (entries : List LiveEntry) (k : Known) (event : Event) (entry : ℕ) → advances entry event ≡ false → IfSome (asked facts time entries k event) (Spares entry)
asked-spares facts time entries k (Event.Claim client request fetched answer) entry n = added-spares entry (target facts (views_in facts entries k) request) _
asked-spares facts time entries k (Event.Schedule client request answer) entry n = added-spares entry (target facts (views_in facts entries k) request) _
asked-spares facts time entries k (Event.Resume client e fetched answer stored) entry n = resumed-spares entry time k e answer n
asked-spares facts time entries k (Event.Finish client e state stored) entry n = n
asked-spares facts time entries k (Event.Judge client e version state stored) entry n = n
asked-spares facts time entries k _ entry n = tt

rows-by-fate : (basis : Basis) (past : List Event) (event : Event) → is_boot event ≡ false
    → rows basis (event ∷ past) ≡ rows_by (fate event) (asked basis.facts (time_of past) (live past) (known basis past) event) (rows basis past)
rows-by-fate basis past (Event.Boot number t limit found boards) b = cc
rows-by-fate basis past _ b = refl

-- Then the row stays.
pub row-same : (basis : Basis) (past : List Event) (event : Event) (entry : ℕ) (row : Row) → is_boot event ≡ false → advances entry event ≡ false → row_of (rows basis past) entry ≡ Some row → row_of (rows basis (event ∷ past)) entry ≡ Some row
row-same basis past event entry row b n h =
    ap (λ (all : List Row). row_of all entry) (rows-by-fate basis past event b)
    ∙ row-by (fate event) (asked basis.facts (time_of past) (live past) (known basis past) event) (rows basis past) entry row
    (asked-spares basis.facts (time_of past) (live past) (known basis past) event entry n) h

pub concerns-none : (event : Event) (entry : ℕ) → concerns entry event ≡ false → advances entry event ≡ false
concerns-none (Event.Resume client e fetched answer stored) entry n = n
concerns-none (Event.Finish client e state stored) entry n = n
concerns-none (Event.Judge client e version state stored) entry n = n
concerns-none _ entry n = refl

-- A row that was put off: only the daemon itself, client 0, resumes it.
pub unadvanced : (c : Campaign) (past : List Event) (event : Event) (entry : ℕ) (row : Row) → IsHistory c.basis.opening → IsLegal c past → Allowed c past event → IsOther 0 event
    → row_of (rows c.basis past) entry ≡ Some row → row.state ≡ RowState.Pending → advances entry event ≡ false
unadvanced c past event entry row v legal a o f p = at event a o.not_of
  where
    at : (x : Event) → Allowed c past x → is_of 0 x ≡ false → advances entry x ≡ false
    at (Event.Boot number t limit found boards) b n = refl
    at (Event.Query client query) b n = refl
    at (Event.Ask client request pending answer) b n = refl
    at (Event.Claim client request fetched answer) b n = refl
    at (Event.Schedule client request answer) b n = refl
    at (Event.Resume client e fetched answer stored) b n =
        let r = b.1 in
        let own : (client == 0) ≡ true = ap (λ (x : ℕ). x == 0) r.client_is in
        let not : (client == 0) ≡ false = n in cc
    at (Event.Start client e op) b n = refl
    at (Event.End client e op outcome told seen) b n = refl
    at (Event.Finish client e state stored) b n =
        let s = b.2 in
        eqb-other e entry (λ q. let g : state_of (rows c.basis past) e ≡ Some RowState.Begun = live-begun c past e b.0 v legal s.live in
        let h : state_of (rows c.basis past) entry ≡ Some row.state = ap (option_map (λ (r : Row). r.state)) f in
        let bad : Some RowState.Pending ≡ Some RowState.Begun = ap Some (sym p) ∙ sym h ∙ ap (state_of (rows c.basis past)) (sym q) ∙ g in cc)
    at (Event.Judge client e version state stored) b n =
        let j = b.2 in
        eqb-other e entry (λ q. let g : Some b.0 ≡ Some row = sym j.row_is ∙ ap (row_of (rows c.basis past)) q ∙ f in
        let same : b.0 ≡ row = cc in
        let s : b.0.state ≡ RowState.Pending = ap (λ (r : Row). r.state) same ∙ p in
        let bad : may_judge past RowState.Pending e ≡ true = subst (λ (x : RowState). may_judge past x e ≡ true) s j.waits in cc)
    at (Event.Unplug client device answer) b n = refl
    at (Event.Plug client device answer) b n = refl
    at (Event.GiveBack client what) b n = refl
    at Event.Cut b n = refl

grown-some : (all : List Row) (new : Row) (entry : ℕ) (o : Option Row) → row_of all entry ≡ o → IsSome o → IsSome (row_of (all ++ new ∷ []) entry)
grown-some all new entry None e h = cc
grown-some all new entry (Some row) e h = let g : row_of (all ++ new ∷ []) entry ≡ Some row = find-grown (λ r. r.entry == entry) all (new ∷ []) row e in rw g refl

fixed-some : (a b : Option Row) → option_map fixed a ≡ option_map fixed b → IsSome b → IsSome a
fixed-some None None e h = h
fixed-some None (Some r) e h = cc
fixed-some (Some r) b e h = refl

-- A row that is there stays there.
pub some-goes_on : (old new : List Row) (entry : ℕ) → GoesOn old new → IsSome (row_of old entry) → IsSome (row_of new entry)
some-goes_on old new entry (inl e) h = subst (λ (all : List Row). IsSome (row_of all entry)) (sym e) h
some-goes_on old new entry (inr (Change.Add row, n, e)) h =
    subst (λ (all : List Row). IsSome (row_of all entry)) (sym e) (grown-some old row entry (row_of old entry) refl h)
some-goes_on old new entry (inr (Change.Advance a state reason time, n, e)) h =
    subst (λ (all : List Row). IsSome (row_of all entry)) (sym e)
    (fixed-some _ _ (map-fixed (with_state a state reason time) old entry (with_state-fixed a state reason time)) h)
