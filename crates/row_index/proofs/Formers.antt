-- Rows, once more as they were.
use Rattle.std.proofs.Common.{◌≡◌, ℕ, zero, suc, ◌+◌, ◌<◌, ◌≤◌, Bool, true, false, List, [], ◌∷◌, ◌++◌, map, length, get_or, take, drop, refl, ap, sym, ◌∙◌, append_assoc, arith}
use Rattle.std.proofs.Math.ListN.{set}
use Rattle.std.proofs.lemmas.List.{append-nil, drop_all, drop_more, get_or_at, set_at, take_all}
use Rattle.std.specs.Prelude.{◌==◌, if◌then◌else◌, Option, None, Some, option_and_then, option_map, slice_get}
use Rattle.history_keeper.specs.Changes.{changed, with_state}
use Rattle.row_index.specs.Formers.{as_before, as_were, former_of}
use Rattle.history_keeper.specs.declared.change.Change.{Change}
use Rattle.row_index.specs.declared.former.Former.{Former}
use Rattle.history_keeper.specs.declared.row.Row.{Row}
use Rattle.history_keeper.specs.declared.row.RowState.{RowState}

-- rows that were not changed since are as they were
pub as_were-now : (rows : List Row) → as_were (map former_of rows) rows ≡ rows
as_were-now [] = refl
as_were-now (row ∷ rows) = ap (λ (rs : List Row). row ∷ rs) (as_were-now rows)

-- ---- a change leaves what they were

stated-chosen : (former : Former) (state : RowState) (reason time : ℕ) (row : Row) (test : Bool) → as_before former (if test then record row { state = state; reason = reason; time_changed = time } else row) ≡ as_before former row
stated-chosen former state reason time row true = refl
stated-chosen former state reason time row false = refl

as_were-stated : (entry : ℕ) (state : RowState) (reason time : ℕ) (formers : List Former) (rows : List Row) → as_were formers (map (with_state entry state reason time) rows) ≡ as_were formers rows
as_were-stated entry state reason time [] rows = refl
as_were-stated entry state reason time (former ∷ formers) [] = refl
as_were-stated entry state reason time (former ∷ formers) (row ∷ rows) =
    ap (λ (r : Row). r ∷ as_were formers (map (with_state entry state reason time) rows)) (stated-chosen former state reason time row (row.entry == entry))
    ∙ ap (λ (rs : List Row). as_before former row ∷ rs) (as_were-stated entry state reason time formers rows)

as_were-pushed : (formers : List Former) (rows more : List Row) → length formers ≤ length rows → as_were formers (rows ++ more) ≡ as_were formers rows
as_were-pushed [] rows more fits = refl
as_were-pushed (former ∷ formers) [] more fits = absurd (omega arith)
as_were-pushed (former ∷ formers) (row ∷ rows) more fits = ap (λ (rs : List Row). as_before former row ∷ rs) (as_were-pushed formers rows more (omega arith))

pub as_were-changed : (change : Change) (formers : List Former) (rows : List Row) → length formers ≤ length rows → as_were formers (changed change rows) ≡ as_were formers rows
as_were-changed (Change.Add row) formers rows fits = as_were-pushed formers rows (row ∷ []) fits
as_were-changed (Change.Advance entry state reason time) formers rows fits = as_were-stated entry state reason time formers rows

-- those behind them count for nothing
pub as_were-taken : (formers : List Former) (rows : List Row) → as_were formers (take (length formers) rows) ≡ as_were formers rows
as_were-taken [] rows = refl
as_were-taken (former ∷ formers) [] = refl
as_were-taken (former ∷ formers) (row ∷ rows) = ap (λ (rs : List Row). as_before former row ∷ rs) (as_were-taken formers rows)

-- the row at a place
pub as_were-at : (formers : List Former) (rows : List Row) (at : ℕ) → slice_get (as_were formers rows) at ≡ option_and_then (λ former. option_map (as_before former) (slice_get rows at)) (slice_get formers at)
as_were-at [] rows at = refl
as_were-at (former ∷ formers) [] zero = refl
as_were-at (former ∷ formers) [] (suc at) = none (slice_get formers at)
  where
    none : (found : Option Former) → None ≡ option_and_then (λ former. option_map (as_before former) None) found
    none None = refl
    none (Some it) = refl
as_were-at (former ∷ formers) (row ∷ rows) zero = refl
as_were-at (former ∷ formers) (row ∷ rows) (suc at) = as_were-at formers rows at

-- ---- a loop that puts each back

pub as_were-none : (formers : List Former) → as_were formers [] ≡ []
as_were-none [] = refl
as_were-none (former ∷ formers) = refl

as_were-length : (formers : List Former) (rows : List Row) (i : ℕ) → i ≤ length rows → i ≤ length formers → length (as_were formers (take i rows)) ≡ i
as_were-length [] rows zero low fits = refl
as_were-length [] rows (suc i) low fits = absurd (omega arith)
as_were-length (former ∷ formers) rows zero low fits = refl
as_were-length (former ∷ formers) [] (suc i) low fits = absurd (omega arith)
as_were-length (former ∷ formers) (row ∷ rows) (suc i) low fits = ap suc (as_were-length formers rows i (omega arith) (omega arith))

as_were-step : (formers : List Former) (rows : List Row) (i : ℕ) (former : Former) (row : Row) → i < length rows → i < length formers
    → as_were formers (take (suc i) rows) ≡ as_were formers (take i rows) ++ as_before (get_or formers i former) (get_or rows i row) ∷ []
as_were-step [] rows i former row low fits = absurd (omega arith)
as_were-step (f ∷ formers) [] i former row low fits = absurd (omega arith)
as_were-step (f ∷ []) (r ∷ rows) zero former row low fits = refl
as_were-step (f ∷ g ∷ formers) (r ∷ rows) zero former row low fits = refl
as_were-step (f ∷ formers) (r ∷ rows) (suc i) former row low fits = ap (λ (rs : List Row). as_before f r ∷ rs) (as_were-step formers rows i former row (omega arith) (omega arith))

pub as_were-more : (formers : List Former) (rows now : List Row) (i : ℕ) (former : Former) (row : Row) → i < length rows → i < length formers
    → now ≡ as_were formers (take i rows) ++ drop i rows → row ≡ get_or now i row
    → set now i (as_before (get_or formers i former) row) ≡ as_were formers (take (i + 1) rows) ++ drop (i + 1) rows
as_were-more formers rows now i former row low fits is here =
    let front : List Row = as_were formers (take i rows) in
    let back : Row = as_before (get_or formers i former) row in
    let long : length front ≡ i = as_were-length formers rows i (omega arith) (omega arith) in
    let parts : now ≡ front ++ get_or rows i row ∷ drop (i + 1) rows = is ∙ ap (λ (l : List Row). front ++ l) (drop_more rows i row low) in
    let read : row ≡ get_or rows i row = here ∙ ap (λ (l : List Row). get_or l i row) parts ∙ get_or_at front _ _ row i long in
    let on : suc i ≡ i + 1 = omega arith in
    let step : as_were formers (take (i + 1) rows) ≡ front ++ back ∷ [] =
    ap (λ (n : ℕ). as_were formers (take n rows)) (sym on) ∙ as_were-step formers rows i former row low fits
    ∙ ap (λ (r : Row). front ++ as_before (get_or formers i former) r ∷ []) (sym read) in
    ap (λ (l : List Row). set l i back) parts ∙ set_at front _ _ back i long ∙ sym (append_assoc front (back ∷ []) _)
    ∙ ap (λ (l : List Row). l ++ drop (i + 1) rows) (sym step)

-- all of them
pub as_were-whole : (formers : List Former) (rows now : List Row) (i : ℕ) → length rows ≤ i → now ≡ as_were formers (take i rows) ++ drop i rows → now ≡ as_were formers rows
as_were-whole formers rows now i all is =
    is ∙ ap (λ (l : List Row). as_were formers (take i rows) ++ l) (drop_all i rows all) ∙ append-nil (as_were formers (take i rows)) ∙ ap (as_were formers) (take_all i rows all)
