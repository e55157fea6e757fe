-- Histories, row by row.
use Rattle.std.proofs.Common.{◌≡◌, ◌≢◌, ℕ, ◌+◌, ◌<◌, arith, List, [], ◌∷◌, ◌++◌, length, take, map, get_or, refl, sym, ap, subst, ◌⊎◌, ◌∙◌, inl, inr, length-take}
use Rattle.std.specs.Prelude.{AllPairs, Some, slice_get}
use Rattle.std.proofs.Math.Seq.{take-append_seam}
use Rattle.std.proofs.lemmas.List.Quantifiers.{all_pairs_push}
use Rattle.std.proofs.lemmas.List.{get_or_append_left, get_or_push, get_or-take, get_or_default, get_or-map, length_push, take_more, take-append-le, take-map, take-take}
use Rattle.std.proofs.lemmas.Option.{get_or_from_slice_get, slice_get-get_or, slice_get_within}
use Rattle.history_keeper.specs.declared.row.Row.{Row}
use Rattle.history_keeper.specs.Histories.{IsHistory, IsFirstFaulty, BothUnsettled, BothRetry, Clashes, IsLinked}
use Rattle.history_keeper.specs.Numbers.{IsNumbered}
use Rattle.history_keeper.proofs.Numbered.{get-push}

-- Nothing is a history.
pub history_none : IsHistory []
history_none = record {
  entries = λ k within. absurd (omega arith);
  tags = λ i j d before within. absurd (omega arith);
  unsettled = λ i j d before within. absurd (omega arith);
  linked = λ at row there. cc;
  retried = λ i j d before within. absurd (omega arith);
}

-- The rows of a history are numbered.
pub history_numbered : (rows : List Row) → IsHistory rows → IsNumbered rows
history_numbered rows h = λ at r there.
    let within : at < length rows = slice_get_within rows at r there in
    ap (λ (x : Row). x.entry) (sym (get_or_from_slice_get rows at r r there))
    ∙ sym (get_or-map (λ (x : Row). x.entry) rows at r 0 within)
    ∙ h.entries at within

-- A relation that holds between a row and each one before it.
pub last-pairs : (R : Row → Row → Type 0) (rows : List Row) (row : Row) → AllPairs R (rows ++ row ∷ []) → (k : ℕ) (d : Row) → k < length rows → R (get_or rows k d) row
last-pairs R rows row all k d within =
    let far : length rows < length (rows ++ row ∷ []) = omega (arith, length_push rows row) in
    let at : R (get_or (rows ++ row ∷ []) k d) (get_or (rows ++ row ∷ []) (length rows) d) = all k (length rows) d within far in
    let first : get_or (rows ++ row ∷ []) k d ≡ get_or rows k d = get_or_append_left rows (row ∷ []) d k within in
    let second : get_or (rows ++ row ∷ []) (length rows) d ≡ row = get_or_push rows row d (length rows) refl in
    let P : Row → Type 0 = λ x. R x row in
    let Q : Row → Type 0 = λ y. R (get_or (rows ++ row ∷ []) k d) y in
    subst P first (subst Q second at)

-- A row before that is at odds with the row clashes with it.
pub clash_at : (rows : List Row) (row : Row) (k : ℕ) (d : Row) → k < length rows → ((get_or rows k d).tag ≡ row.tag) ⊎ BothUnsettled (get_or rows k d) row ⊎ BothRetry (get_or rows k d) row → Clashes rows row
clash_at rows row k d within odds = (k, get_or rows k d, within, get_or_default rows k (get_or rows k d) d within, odds)

-- A row with the next entry that clashes with none before it, and tries one of them again if any, goes on with a history.
pub history_more : (rows : List Row) (row : Row) → IsHistory rows → row.entry ≡ length rows + 1 → (Clashes rows row → ⊥) → IsLinked rows row → IsHistory (rows ++ row ∷ [])
history_more rows row h e free link = record {
  entries = λ k within. elim (k_or_last k within) [ inl before ↦ old k before | inr same ↦ new k same ];
  tags = all_pairs_push (λ (a b : Row). a.tag ≢ b.tag) rows row h.tags (λ k d within same. free (clash_at rows row k d within (inl same)));
  unsettled = all_pairs_push (λ (a b : Row). BothUnsettled a b → ⊥) rows row h.unsettled (λ k d within both. free (clash_at rows row k d within (inr (inl both))));
  linked = λ at r there. linked_more at r (get-push rows row r at there);
  retried = all_pairs_push (λ (a b : Row). BothRetry a b → ⊥) rows row h.retried (λ k d within both. free (clash_at rows row k d within (inr (inr both))));
}
  where
    linked_more : (at : ℕ) (r : Row) → (slice_get rows at ≡ Some r) ⊎ ((at ≡ length rows) × (row ≡ r)) → IsLinked (take at (rows ++ row ∷ [])) r
    linked_more at r (inl there) =
        let within : at < length rows = slice_get_within rows at r there in
        subst (λ (rs : List Row). IsLinked rs r) (sym (take-append-le at rows (row ∷ []) (omega (arith, within)))) (h.linked at r there)
    linked_more at r (inr last) =
        let all : take at (rows ++ row ∷ []) ≡ rows = ap (λ (n : ℕ). take n (rows ++ row ∷ [])) last.0 ∙ take-append_seam rows (row ∷ []) in
        subst (λ (rs : List Row). IsLinked rs r) (sym all) (subst (IsLinked rows) last.1 link)

    k_or_last : (k : ℕ) → k < length (rows ++ row ∷ []) → (k < length rows) ⊎ (k ≡ length rows)
    k_or_last k within = grind (arith, length_push rows row)

    old : (k : ℕ) → k < length rows → get_or (map (λ (r : Row). r.entry) (rows ++ row ∷ [])) k 0 ≡ k + 1
    old k before =
        let far : k < length (rows ++ row ∷ []) = omega (arith, length_push rows row) in
        get_or-map (λ (r : Row). r.entry) (rows ++ row ∷ []) k row 0 far ∙ ap (λ (r : Row). r.entry) (get_or_append_left rows (row ∷ []) row k before) ∙ sym (get_or-map (λ (r : Row). r.entry) rows k row 0 before) ∙ h.entries k before

    new : (k : ℕ) → k ≡ length rows → get_or (map (λ (r : Row). r.entry) (rows ++ row ∷ [])) k 0 ≡ k + 1
    new k same =
        let far : k < length (rows ++ row ∷ []) = omega (arith, length_push rows row) in
        get_or-map (λ (r : Row). r.entry) (rows ++ row ∷ []) k row 0 far ∙ ap (λ (r : Row). r.entry) (get_or_push rows row row k (sym same)) ∙ e ∙ ap (λ (n : ℕ). n + 1) (sym same)

-- In a history the last row has the next entry, and clashes with none before it.
pub history_last-entry : (rows : List Row) (row : Row) → IsHistory (rows ++ row ∷ []) → row.entry ≡ length rows + 1
history_last-entry rows row h =
    let far : length rows < length (rows ++ row ∷ []) = omega (arith, length_push rows row) in
    ap (λ (r : Row). r.entry) (sym (get_or_push rows row row (length rows) refl)) ∙ sym (get_or-map (λ (r : Row). r.entry) (rows ++ row ∷ []) (length rows) row 0 far) ∙ h.entries (length rows) far

pub history_last-free : (rows : List Row) (row : Row) → IsHistory (rows ++ row ∷ []) → Clashes rows row → ⊥
history_last-free rows row h (k, x, within, at, inl same) =
    let P : Row → Type 0 = λ r. r.tag ≡ row.tag → ⊥ in
    subst P at (last-pairs (λ (a b : Row). a.tag ≢ b.tag) rows row h.tags k x within) same
history_last-free rows row h (k, x, within, at, inr (inl both)) =
    let P : Row → Type 0 = λ r. BothUnsettled r row → ⊥ in
    subst P at (last-pairs (λ (a b : Row). BothUnsettled a b → ⊥) rows row h.unsettled k x within) both
history_last-free rows row h (k, x, within, at, inr (inr both)) =
    let P : Row → Type 0 = λ r. BothRetry r row → ⊥ in
    subst P at (last-pairs (λ (a b : Row). BothRetry a b → ⊥) rows row h.retried k x within) both

pub history_last-linked : (rows : List Row) (row : Row) → IsHistory (rows ++ row ∷ []) → IsLinked rows row
history_last-linked rows row h =
    let far : length rows < length (rows ++ row ∷ []) = omega (arith, length_push rows row) in
    let there : slice_get (rows ++ row ∷ []) (length rows) ≡ Some row = slice_get-get_or (rows ++ row ∷ []) (length rows) row far ∙ ap Some (get_or_push rows row row (length rows) refl) in
    subst (λ (rs : List Row). IsLinked rs row) (take-append_seam rows (row ∷ [])) (h.linked (length rows) row there)

-- A relation between the rows of a list, in a front of it.
pub front-pairs : (R : Row → Row → Type 0) (rows : List Row) (n : ℕ) → AllPairs R rows → AllPairs R (take n rows)
front-pairs R rows n all i j d before within =
    let low : j < n = omega (arith, length-take n rows) in
    let low_i : i < n = omega arith in
    let all_within : j < length rows = omega (arith, length-take n rows) in
    rw (get_or-take n rows i d low_i, get_or-take n rows j d low) (all i j d before all_within)

-- What stands in a front of rows stands before its end, and at the same place of the rows.
pub front-get : (rows : List Row) (n at : ℕ) (r : Row) → slice_get (take n rows) at ≡ Some r → (at < n) × (slice_get rows at ≡ Some r)
front-get rows n at r there =
    let within : at < length (take n rows) = slice_get_within (take n rows) at r there in
    let low : at < n = omega (arith, length-take n rows, within) in
    let far : at < length rows = omega (arith, length-take n rows, within) in
    let is : get_or rows at r ≡ r = sym (get_or-take n rows at r low) ∙ get_or_from_slice_get (take n rows) at r r there in
    (low, slice_get-get_or rows at r far ∙ ap Some is)

-- A front of a history is a history.
pub history_front : (rows : List Row) (n : ℕ) → IsHistory rows → IsHistory (take n rows)
history_front rows n h = record {
  entries = λ k within. entry k within;
  tags = front-pairs (λ (a b : Row). a.tag ≢ b.tag) rows n h.tags;
  unsettled = front-pairs (λ (a b : Row). BothUnsettled a b → ⊥) rows n h.unsettled;
  linked = λ at r there. linked_front at r there;
  retried = front-pairs (λ (a b : Row). BothRetry a b → ⊥) rows n h.retried;
}
  where
    linked_front : (at : ℕ) (r : Row) → slice_get (take n rows) at ≡ Some r → IsLinked (take at (take n rows)) r
    linked_front at r there =
        let place = front-get rows n at r there in
        let low : at < n = place.0 in
        subst (λ (rs : List Row). IsLinked rs r) (sym (take-take at n rows (omega (arith, low)))) (h.linked at r place.1)

    entry : (k : ℕ) → k < length (take n rows) → get_or (map (λ (r : Row). r.entry) (take n rows)) k 0 ≡ k + 1
    entry k within =
        let low : k < n = omega (arith, length-take n rows) in
        let far : k < length rows = omega (arith, length-take n rows) in
        let same : map (λ (r : Row). r.entry) (take n rows) ≡ take n (map (λ (r : Row). r.entry) rows) = sym (take-map (λ (r : Row). r.entry) n rows) in
        rw same (get_or-take n (map (λ (r : Row). r.entry) rows) k 0 low ∙ h.entries k far)

-- Where the row at a place breaks a rule with the rows before it, it is the first that does.
pub first_faulty : (rows : List Row) (at : ℕ) (d : Row) → at < length rows → IsHistory (take at rows) → ((get_or rows at d).entry ≡ at + 1 → IsLinked (take at rows) (get_or rows at d) → Clashes (take at rows) (get_or rows at d)) → IsFirstFaulty rows at
first_faulty rows at d within before odds = record { within = within; before = before; breaks = breaks }
  where
    breaks : IsHistory (take (at + 1) rows) → ⊥
    breaks h =
        let more : IsHistory (take at rows ++ get_or rows at d ∷ []) = rw (← take_more rows at d within) h in
        let long : length (take at rows) ≡ at = omega (arith, length-take at rows) in
        let entry : (get_or rows at d).entry ≡ at + 1 = history_last-entry (take at rows) (get_or rows at d) more ∙ ap (λ (n : ℕ). n + 1) long in
        history_last-free (take at rows) (get_or rows at d) more (odds entry (history_last-linked (take at rows) (get_or rows at d) more))

-- One more row of a history.
pub still_history : (rows : List Row) (at : ℕ) (d : Row) → at < length rows → IsHistory (take at rows) → (get_or rows at d).entry ≡ at + 1 → (Clashes (take at rows) (get_or rows at d) → ⊥) → IsLinked (take at rows) (get_or rows at d) → IsHistory (take (at + 1) rows)
still_history rows at d within before entry free link =
    let long : length (take at rows) ≡ at = omega (arith, length-take at rows) in
    rw (take_more rows at d within) (history_more (take at rows) (get_or rows at d) before (entry ∙ ap (λ (n : ℕ). n + 1) (sym long)) free link)
