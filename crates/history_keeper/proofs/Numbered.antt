-- Rows whose entries are 1, 2, 3 and so on: a row is found by its place.
use Rattle.std.proofs.Common.{◌≡◌, ℕ, zero, suc, Bool, true, false, List, [], ◌∷◌, ◌++◌, length, map, refl, ap, sym, ◌∙◌, ◌<◌, ◌≤◌, ◌+◌, arith, ◌⊎◌, inl, inr}
use Rattle.std.proofs.lemmas.Bool.{eqb-true, eq-eqb}
use Rattle.std.specs.Prelude.{Option, Some, None, ◌==◌, option_map, slice_get, slice_set}
use Rattle.std.proofs.lemmas.Option.{slice_get-map, slice_get_within, same_Some}
use Rattle.history_keeper.specs.declared.row.Row.{Row}
use Rattle.history_keeper.specs.declared.row.RowState.{RowState}
use Rattle.history_keeper.specs.Changes.{with_state}
use Rattle.history_keeper.specs.Numbers.{IsNumbered}

-- a choice by a test, with what the test says
pub by_test : (b : Bool) (G : Type 0) → (b ≡ true → G) → (b ≡ false → G) → G
by_test true G f g = f refl
by_test false G f g = g refl

pub eqb-other : (m n : ℕ) → (m ≡ n → ⊥) → (m == n) ≡ false
eqb-other m n h = by_test (m == n) _ (λ t. absurd (h (eqb-true m n t))) (λ t. t)

-- The row behind the others, and those before it.
pub get-push : (rows : List Row) (row r : Row) (at : ℕ) → slice_get (rows ++ row ∷ []) at ≡ Some r → (slice_get rows at ≡ Some r) ⊎ ((at ≡ length rows) × (row ≡ r))
get-push [] row r zero h = inr (refl, same_Some row r h)
get-push [] row r (suc at) h = cc
get-push (x ∷ rows) row r zero h = inl h
get-push (x ∷ rows) row r (suc at) h = later (get-push rows row r at h)
  where
    later : (slice_get rows at ≡ Some r) ⊎ ((at ≡ length rows) × (row ≡ r)) → (slice_get (x ∷ rows) (suc at) ≡ Some r) ⊎ ((suc at ≡ suc (length rows)) × (row ≡ r))
    later (inl g) = inl g
    later (inr g) = inr (ap suc g.0, g.1)

-- Entries that count from a number.

abbrev pub CountsFrom : ℕ → List Row → Type 0
CountsFrom n [] = Unit {0}
CountsFrom n (r ∷ rows) = (r.entry ≡ n) × CountsFrom (n + 1) rows

pub counts-from : (n : ℕ) (rows : List Row) → ((at : ℕ) (r : Row) → slice_get rows at ≡ Some r → r.entry ≡ at + n) → CountsFrom n rows
counts-from n [] h = tt
counts-from n (r ∷ rows) h = (
  let first : r.entry ≡ 0 + n = h 0 r refl in omega arith,
  counts-from (n + 1) rows (λ at s g. let next : s.entry ≡ suc at + n = h (suc at) s g in omega arith),
)

-- Rows stay numbered with a row behind them that has the next entry.
pub numbered-push : (rows : List Row) (row : Row) → IsNumbered rows → row.entry ≡ length rows + 1 → IsNumbered (rows ++ row ∷ [])
numbered-push rows row h next = λ at r g. by_place at r (get-push rows row r at g)
  where
    by_place : (at : ℕ) (r : Row) → (slice_get rows at ≡ Some r) ⊎ ((at ≡ length rows) × (row ≡ r)) → r.entry ≡ at + 1
    by_place at r (inl g) = h at r g
    by_place at r (inr g) = ap (λ (x : Row). x.entry) (sym g.1) ∙ next ∙ ap (λ n. n + 1) (sym g.0)

-- Another state of the row of an entry.

module _ (e : ℕ) (state : RowState) (reason time : ℕ) where
  past-stated : (n : ℕ) (rows : List Row) → CountsFrom n rows → (e < n) ⊎ (n + length rows ≤ e) → rows ≡ map (with_state e state reason time) rows
  past-stated n [] c l = refl
  past-stated n (r ∷ rows) c l =
      let apart : (r.entry == e) ≡ false = eqb-other r.entry e (λ g. away n r rows l g c.0) in
      let rest : rows ≡ map (with_state e state reason time) rows = past-stated (n + 1) rows c.1 (later n rows l) in
      rw apart (ap (λ rs. r ∷ rs) rest)
    where
      away : (n : ℕ) (r : Row) (rows : List Row) → (e < n) ⊎ (n + suc (length rows) ≤ e) → r.entry ≡ e → r.entry ≡ n → ⊥
      away n r rows (inl h) g s = omega arith
      away n r rows (inr h) g s = omega arith

      later : (n : ℕ) (rows : List Row) → (e < n) ⊎ (n + suc (length rows) ≤ e) → (e < n + 1) ⊎ (n + 1 + length rows ≤ e)
      later n rows (inl h) = inl (omega arith)
      later n rows (inr h) = inr (omega arith)

  within-stated : (n : ℕ) (rows : List Row) (k : ℕ) (r : Row) → CountsFrom n rows → slice_get rows k ≡ Some r → e ≡ k + n → slice_set rows k (with_state e state reason time r) ≡ map (with_state e state reason time) rows
  within-stated n [] k r c g q = cc
  within-stated n (x ∷ rows) zero r c g q =
      let same : x ≡ r = same_Some x r g in
      ap (λ y. with_state e state reason time y ∷ rows) (sym same)
      ∙ ap (λ rs. with_state e state reason time x ∷ rs) (past-stated (n + 1) rows c.1 (inl (omega arith)))
  within-stated n (x ∷ rows) (suc k) r c g q =
      let apart : (x.entry == e) ≡ false = eqb-other x.entry e (λ s. let z : x.entry ≡ n = c.0 in omega arith) in
      let rest : slice_set rows k (with_state e state reason time r) ≡ map (with_state e state reason time) rows = within-stated (n + 1) rows k r c.1 g (omega arith) in
      ap (λ rs. x ∷ rs) rest ∙ ap (λ y. y ∷ map (with_state e state reason time) rows) (let same : with_state e state reason time x ≡ x = rw apart refl in sym same)

  pub stated-past : (rows : List Row) → IsNumbered rows → (e ≡ 0) ⊎ (length rows < e) → rows ≡ map (with_state e state reason time) rows
  stated-past rows h (inl z) = past-stated 1 rows (counts-from 1 rows h) (inl (omega arith))
  stated-past rows h (inr l) = past-stated 1 rows (counts-from 1 rows h) (inr (omega arith))

  pub stated-within : (rows : List Row) (k : ℕ) (r : Row) → IsNumbered rows → slice_get rows k ≡ Some r → e ≡ k + 1 → slice_set rows k (with_state e state reason time r) ≡ map (with_state e state reason time) rows
  stated-within rows k r h g q = within-stated 1 rows k r (counts-from 1 rows h) g q

  -- a row keeps its entry
  pub stated-entry : (r : Row) → (with_state e state reason time r).entry ≡ r.entry
  stated-entry r = by_test (r.entry == e) _ (λ t. rw t refl) (λ t. rw t refl)

  -- rows stay numbered
  pub numbered-stated : (rows : List Row) → IsNumbered rows → IsNumbered (map (with_state e state reason time) rows)
  numbered-stated rows h = λ at r g. by_row at r (slice_get rows at) refl (sym (slice_get-map (with_state e state reason time) rows at) ∙ g)
    where
      by_row : (at : ℕ) (r : Row) (o : Option Row) → slice_get rows at ≡ o → option_map (with_state e state reason time) o ≡ Some r → r.entry ≡ at + 1
      by_row at r None f g = cc
      by_row at r (Some s) f g = ap (λ (x : Row). x.entry) (sym (same_Some (with_state e state reason time s) r g)) ∙ stated-entry s ∙ h at s f

-- Rows that are numbered up to a place.

abbrev pub NumberedBefore : ℕ → List Row → Type 0
NumberedBefore end rows = (at : ℕ) (r : Row) → at < end → slice_get rows at ≡ Some r → r.entry ≡ at + 1

pub numbered-more : (end : ℕ) (rows : List Row) (row : Row) → NumberedBefore end rows → slice_get rows end ≡ Some row → row.entry ≡ end + 1 → NumberedBefore (end + 1) rows
numbered-more end rows row h there next = λ at r l g. by_test (at == end) _
    (λ t. let same : at ≡ end = eqb-true at end t in
    let found : Some row ≡ Some r = sym there ∙ ap (slice_get rows) (sym same) ∙ g in
    ap (λ (x : Row). x.entry) (sym (same_Some row r found)) ∙ next ∙ ap (λ n. n + 1) (sym same))
    (λ t. h at r (let apart : at ≡ end → ⊥ = λ e. let yes : (at == end) ≡ true = eq-eqb at end e in cc in omega (arith, apart)) g)

pub numbered-all : (end : ℕ) (rows : List Row) → NumberedBefore end rows → length rows ≤ end → IsNumbered rows
numbered-all end rows h l = λ at r g. h at r (let within : at < length rows = slice_get_within rows at r g in omega arith) g
