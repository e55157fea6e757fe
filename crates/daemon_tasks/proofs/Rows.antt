-- Which rows a judgement leaves alone.
use Rattle.std.proofs.Common.{◌≡◌, ℕ, Bool, true, false, List, [], ◌∷◌, map, refl, ap, ◌∙◌}
use Rattle.std.proofs.lemmas.Bool.{eqb-true}
use Rattle.std.specs.Prelude.{Some, ◌==◌}
use Rattle.history_keeper.specs.Changes.{with_state}
use Rattle.history_keeper.specs.declared.change.Change.{Change}
use Rattle.history_keeper.specs.declared.row.Row.{Row}
use Rattle.history_keeper.specs.declared.row.RowState.{RowState}
use Rattle.update_log.proofs.Lists.{by_test}
use Rattle.update_log.specs.declared.event.Event.{Event}
use Rattle.update_log.specs.declared.event.Stored.{Stored}
use Rattle.update_log.specs.declared.facts.Facts.{Facts}
use Rattle.update_log.specs.Known.{Basis, basis_of, Fate, fate_stored, row_of, rows, rows_by}
use Rattle.update_log.specs.Pasts.{time_of}
use Rattle.daemon_core.proofs.HouseLogKept.{appended-past}
use Rattle.daemon_core.specs.HouseLog.{Appended, SameFacts}
use Rattle.daemon_core.specs.Housed.{basis_in, HouseLogView, past_in, rows_before}
use Rattle.daemon_core.specs.declared.stop.Stop.{Stop}
use Rattle.client_plays.proofs.RestLaws.{before-same}
use Rattle.daemon_tasks.specs.Stays.{rows_at}
use Rattle.daemon_tasks.proofs.Turns.{Halted, cut_past}

-- Another entry's row is found as before where one gets another state.
advanced : (entry : ℕ) (state : RowState) (reason time : ℕ) (all : List Row) (other : ℕ) → (entry == other) ≡ false → row_of (map (with_state entry state reason time) all) other ≡ row_of all other
advanced entry state reason time [] other h = refl
advanced entry state reason time (r ∷ all) other h =
    let rest : row_of (map (with_state entry state reason time) all) other ≡ row_of all other = advanced entry state reason time all other h in
    by_test (r.entry == entry) _
    (λ t.
    let same : r.entry ≡ entry = eqb-true r.entry entry t in
    let far : (r.entry == other) ≡ false = ap (λ (n : ℕ). n == other) same ∙ h in
    rw (t, far) rest)
    (λ t. by_test (r.entry == other) _ (λ u. rw (t, u) refl) (λ u. rw (t, u) rest))

by-fate : (fate : Fate) (entry : ℕ) (state : RowState) (reason time : ℕ) (all : List Row) (other : ℕ) → (entry == other) ≡ false → row_of (rows_by fate (Some (Change.Advance entry state reason time)) all) other ≡ row_of all other
by-fate Fate.Made entry state reason time all other h = advanced entry state reason time all other h
by-fate Fate.Doubtful entry state reason time all other h = refl
by-fate Fate.Dropped entry state reason time all other h = refl

-- The rows of a house log with the same facts, where this is their past.
rows-over : (old new : HouseLogView) (p : List Event) → SameFacts old new → past_in new ≡ p → rows_at new ≡ rows (basis_in old) p
rows-over old new p s e =
    ap (λ (f : Facts). rows (basis_of f (rows_before new)) (past_in new)) s.facts
    ∙ ap (λ (o : List Row). rows (basis_of old.facts o) (past_in new)) (before-same old new s)
    ∙ ap (λ (w : List Event). rows (basis_in old) w) e

-- The row of every other entry stays where one is judged.
pub others-judged : (entry : ℕ) (version : List ℕ) (state : RowState) (stored : Stored) (old new : HouseLogView) → Appended 0 (Event.Judge 0 entry version state stored) old new → (other : ℕ) → (entry == other) ≡ false → row_of (rows_at new) other ≡ row_of (rows_at old) other
others-judged entry version state stored old new a other h =
    let event = Event.Judge 0 entry version state stored in
    ap (λ (r : List Row). row_of r other) (rows-over old new (event ∷ past_in old) a.same (appended-past 0 event old new a))
    ∙ by-fate (fate_stored stored) entry state _ (time_of (past_in old)) (rows (basis_in old) (past_in old)) other h

cut-row : (basis : Basis) (cut : Bool) (past : List Event) (other : ℕ) → row_of (rows basis (cut_past cut past)) other ≡ row_of (rows basis past) other
cut-row basis true past other = refl
cut-row basis false past other = refl

-- Every row stays where a call was stopped.
pub rows-halted : (stop : Stop) (old new : HouseLogView) → Halted stop old new → (other : ℕ) → row_of (rows_at new) other ≡ row_of (rows_at old) other
rows-halted stop old new h other =
    ap (λ (r : List Row). row_of r other) (rows-over old new (cut_past h.cut (past_in old)) h.same h.past_is)
    ∙ cut-row (basis_in old) h.cut (past_in old) other
