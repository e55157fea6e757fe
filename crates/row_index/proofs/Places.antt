-- Rows found by their places.
use Rattle.std.proofs.Common.{◌≡◌, ℕ, zero, suc, Bool, true, false, not, List, [], ◌∷◌, ◌++◌, length, map, refl, ap, sym, ◌∙◌, ◌<◌, ◌≤◌, ◌+◌, arith, ◌⊎◌, inl, inr}
use Rattle.std.proofs.lemmas.Bool.{eqb-true, eq-eqb}
use Rattle.std.specs.Prelude.{Option, Some, None, ◌==◌, find, option_map, slice_get}
use Rattle.std.specs.Bool.{OnFalse}
use Rattle.std.proofs.lemmas.Option.{slice_get-map, same_Some}
use Rattle.history_keeper.specs.declared.row.Row.{Row}
use Rattle.history_keeper.specs.declared.row.RowState.{RowState}
use Rattle.history_keeper.specs.Changes.{with_state}
use Rattle.row_index.specs.Rows.{has_entry}
use Rattle.history_keeper.specs.Histories.{is_unsettled}
use Rattle.history_keeper.specs.Numbers.{IsNumbered}
use Rattle.history_keeper.proofs.Numbered.{by_test, eqb-other, CountsFrom, counts-from, stated-past}
use Rattle.row_index.specs.Indexes.{WaitsFromBefore, or_noted, place_of, row_at}

pub place-push : (test : Row → Bool) (rows : List Row) (row : Row) → or_noted (place_of test rows) (test row) (length rows) ≡ place_of test (rows ++ row ∷ [])
place-push test [] row = by_test (test row) _ (λ t. rw t refl) (λ t. rw t refl)
place-push test (x ∷ rows) row =
    let rest : or_noted (place_of test rows) (test row) (length rows) ≡ place_of test (rows ++ row ∷ []) = place-push test rows row in
    by_test (test x) _
    (λ t. rw t refl)
    (λ t. rw t (later (place_of test rows) (test row) ∙ ap (option_map suc) rest))
  where
    later : (o : Option ℕ) (b : Bool) → or_noted (option_map suc o) b (suc (length rows)) ≡ option_map suc (or_noted o b (length rows))
    later None true = refl
    later None false = refl
    later (Some at) b = refl

-- The first row that passes stands at its place.

pub find-place : (test : Row → Bool) (rows : List Row) → find test (row_at rows (place_of test rows)) ≡ find test rows
find-place test [] = refl
find-place test (x ∷ rows) =
    let rest : find test (row_at rows (place_of test rows)) ≡ find test rows = find-place test rows in
    by_test (test x) _
    (λ t. rw (t, t) refl)
    (λ t. rw t (later (place_of test rows) ∙ rest))
  where
    later : (o : Option ℕ) → find test (row_at (x ∷ rows) (option_map suc o)) ≡ find test (row_at rows o)
    later None = refl
    later (Some at) = refl

-- So does the only row that passes.

none-passes : (test : Row → Bool) (rows : List Row) → ((at : ℕ) (r : Row) → slice_get rows at ≡ Some r → test r ≡ true → ⊥) → find test rows ≡ None
none-passes test [] h = refl
none-passes test (x ∷ rows) h =
    by_test (test x) _
    (λ t. absurd (h zero x refl t))
    (λ t. rw t (none-passes test rows (λ at r g p. h (suc at) r g p)))

one-passes : (test : Row → Bool) (rows : List Row) (k : ℕ) → ((at : ℕ) (r : Row) → slice_get rows at ≡ Some r → test r ≡ true → k ≡ at) → find test (row_at rows (Some k)) ≡ find test rows
one-passes test [] k h = refl
one-passes test (x ∷ rows) zero h =
    by_test (test x) _
    (λ t. rw t refl)
    (λ t. rw t (sym (none-passes test rows (λ at r g p. let bad : 0 ≡ suc at = h (suc at) r g p in cc))))
one-passes test (x ∷ rows) (suc k) h =
    by_test (test x) _
    (λ t. let bad : suc k ≡ 0 = h zero x refl t in cc)
    (λ t. rw t (one-passes test rows k (λ at r g p. let s : suc k ≡ suc at = h (suc at) r g p in omega arith)))

pub near-passes : (test : Row → Bool) (rows : List Row) (noted : Option ℕ) → ((at : ℕ) (r : Row) → slice_get rows at ≡ Some r → test r ≡ true → noted ≡ Some at) → find test (row_at rows noted) ≡ find test rows
near-passes test rows None h = sym (none-passes test rows (λ at r g p. let bad : None ≡ Some at = h at r g p in cc))
near-passes test rows (Some k) h = one-passes test rows k (λ at r g p. same_Some k at (h at r g p))

-- The row of an entry.

entry-within : (n : ℕ) (rows : List Row) (k e : ℕ) → CountsFrom n rows → k < length rows → e ≡ k + n → find (has_entry e) rows ≡ slice_get rows k
entry-within n [] k e c l q = absurd (omega arith)
entry-within n (r ∷ rows) zero e c l q =
    let here : (r.entry == e) ≡ true = eq-eqb r.entry e (let s : r.entry ≡ n = c.0 in omega arith) in rw here refl
entry-within n (r ∷ rows) (suc k) e c l q =
    let apart : (r.entry == e) ≡ false = eqb-other r.entry e (λ g. let s : r.entry ≡ n = c.0 in omega arith) in
    rw apart (entry-within (n + 1) rows k e c.1 (omega arith) (omega arith))

entry-past : (n : ℕ) (rows : List Row) (e : ℕ) → CountsFrom n rows → (e < n) ⊎ (n + length rows ≤ e) → find (has_entry e) rows ≡ None
entry-past n [] e c l = refl
entry-past n (r ∷ rows) e c l =
    let apart : (r.entry == e) ≡ false = eqb-other r.entry e (λ g. away l g c.0) in
    rw apart (entry-past (n + 1) rows e c.1 (later l))
  where
    away : (e < n) ⊎ (n + suc (length rows) ≤ e) → r.entry ≡ e → r.entry ≡ n → ⊥
    away (inl h) g s = omega arith
    away (inr h) g s = omega arith

    later : (e < n) ⊎ (n + suc (length rows) ≤ e) → (e < n + 1) ⊎ (n + 1 + length rows ≤ e)
    later (inl h) = inl (omega arith)
    later (inr h) = inr (omega arith)

pub found-within : (rows : List Row) (k e : ℕ) → IsNumbered rows → k < length rows → e ≡ k + 1 → slice_get rows k ≡ find (has_entry e) rows
found-within rows k e h l q = sym (entry-within 1 rows k e (counts-from 1 rows h) l q)

pub found-past : (rows : List Row) (e : ℕ) → IsNumbered rows → (e ≡ 0) ⊎ (length rows < e) → find (has_entry e) rows ≡ None
found-past rows e h (inl z) = entry-past 1 rows e (counts-from 1 rows h) (inl (omega arith))
found-past rows e h (inr l) = entry-past 1 rows e (counts-from 1 rows h) (inr (omega arith))

-- Another state of the row of an entry.

module _ (e : ℕ) (state : RowState) (reason time : ℕ) where
  -- a row that waits then waited before, where the row of the entry did, and where there is none
  pub waits-before : (rows : List Row) (k : ℕ) (r : Row) → IsNumbered rows → slice_get rows k ≡ Some r → e ≡ k + 1 → is_unsettled r.state ≡ true → WaitsFromBefore (with_state e state reason time) rows
  waits-before rows k r h g q u = λ at s f w.
      by_test (s.entry == e) _
      (λ t. let there : s.entry ≡ e = eqb-true s.entry e t in
      let counted : s.entry ≡ at + 1 = h at s f in
      let same : k ≡ at = omega arith in
      let found : Some r ≡ Some s = sym g ∙ ap (slice_get rows) same ∙ f in
      ap (λ (x : Row). is_unsettled x.state) (sym (same_Some r s found)) ∙ u)
      (λ t. let kept : with_state e state reason time s ≡ s = rw t refl in ap (λ (x : Row). is_unsettled x.state) (sym kept) ∙ w)

  pub none-waits : (rows : List Row) → IsNumbered rows → (e ≡ 0) ⊎ (length rows < e) → WaitsFromBefore (with_state e state reason time) rows
  none-waits rows h l = λ at s f w.
      let mapped : slice_get (map (with_state e state reason time) rows) at ≡ Some (with_state e state reason time s) = slice_get-map (with_state e state reason time) rows at ∙ ap (option_map (with_state e state reason time)) f in
      let same : Some s ≡ Some (with_state e state reason time s) = sym f ∙ ap (λ rs. slice_get rs at) (stated-past e state reason time rows h l) ∙ mapped in
      ap (λ (x : Row). is_unsettled x.state) (same_Some s (with_state e state reason time s) same) ∙ w

pub not-settled : (b : Bool) (P : Type 0) → (b ≡ true → P) → OnFalse (not b) P
not-settled true P h = h refl
not-settled false P h = tt
