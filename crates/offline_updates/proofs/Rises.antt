-- Entries of a valid history rise, and are noted row by row.
use Rattle.std.proofs.Common.{◌≡◌, ℕ, ◌+◌, ◌<◌, ◌≤◌, arith, Bool, List, [], ◌∷◌, ◌++◌, length, take, map, filter, get_or, if◌then◌else◌, refl, sym, ap, ◌∙◌}
use Rattle.std.specs.Prelude.{AllPairs}
use Rattle.std.proofs.lemmas.List.{get_or-map, take_all, take_more, length-map}
use Rattle.std.proofs.lemmas.List.Kept.{AllPairs-filter}
use Rattle.history_keeper.proofs.Numbered.{by_test}
use Rattle.history_keeper.specs.declared.row.Row.{Row}
use Rattle.history_keeper.specs.declared.row.RowState.{RowState}
use Rattle.history_keeper.specs.Histories.{IsHistory}
use Rattle.offline_updates.specs.Waiting.{Rising, entries_where}

rows_rise : (rows : List Row) → IsHistory rows → AllPairs (λ (a b : Row). a.entry < b.entry) rows
rows_rise rows h i j d lt within =
    let first : get_or (map (λ (r : Row). r.entry) rows) i 0 ≡ (get_or rows i d).entry = get_or-map (λ (r : Row). r.entry) rows i d 0 (omega arith) in
    let second : get_or (map (λ (r : Row). r.entry) rows) j 0 ≡ (get_or rows j d).entry = get_or-map (λ (r : Row). r.entry) rows j d 0 within in
    let one : get_or (map (λ (r : Row). r.entry) rows) i 0 ≡ i + 1 = h.entries i (omega arith) in
    let two : get_or (map (λ (r : Row). r.entry) rows) j 0 ≡ j + 1 = h.entries j within in
    omega arith

mapped_rise : (rows : List Row) → AllPairs (λ (a b : Row). a.entry < b.entry) rows → Rising (map (λ (r : Row). r.entry) rows)
mapped_rise [] h i j d lt within = absurd (omega arith)
mapped_rise (row ∷ rows) h i j d lt within =
    let far : j < length (row ∷ rows) = omega (arith, length-map (row ∷ rows) (λ (r : Row). r.entry)) in
    let first : get_or (map (λ (r : Row). r.entry) (row ∷ rows)) i d ≡ (get_or (row ∷ rows) i row).entry = get_or-map (λ (r : Row). r.entry) (row ∷ rows) i row d (omega arith) in
    let second : get_or (map (λ (r : Row). r.entry) (row ∷ rows)) j d ≡ (get_or (row ∷ rows) j row).entry = get_or-map (λ (r : Row). r.entry) (row ∷ rows) j row d far in
    let rise : (get_or (row ∷ rows) i row).entry < (get_or (row ∷ rows) j row).entry = h i j row lt far in
    rw (first, second) rise

pub entries_rise : (fits : RowState → Bool) (rows : List Row) → IsHistory rows → Rising (entries_where fits rows)
entries_rise fits rows h =
    mapped_rise (filter (λ (r : Row). fits r.state) rows)
    (AllPairs-filter (λ (a b : Row). a.entry < b.entry) (λ (r : Row). fits r.state) rows (rows_rise rows h))

one_more : (fits : RowState → Bool) (xs : List Row) (y : Row) → entries_where fits (xs ++ y ∷ []) ≡ (if fits y.state then entries_where fits xs ++ y.entry ∷ [] else entries_where fits xs)
one_more fits [] y = by_test (fits y.state) _ (λ t. rw t refl) (λ t. rw t refl)
one_more fits (x ∷ xs) y =
    let rest : entries_where fits (xs ++ y ∷ []) ≡ (if fits y.state then entries_where fits xs ++ y.entry ∷ [] else entries_where fits xs) = one_more fits xs y in
    by_test (fits y.state) _
    (λ u. let now : entries_where fits (xs ++ y ∷ []) ≡ entries_where fits xs ++ y.entry ∷ [] = rw u at rest in
    by_test (fits x.state) _ (λ t. rw (u, t) (ap (λ (es : List ℕ). x.entry ∷ es) now)) (λ t. rw (u, t) now))
    (λ u. let now : entries_where fits (xs ++ y ∷ []) ≡ entries_where fits xs = rw u at rest in
    by_test (fits x.state) _ (λ t. rw (u, t) (ap (λ (es : List ℕ). x.entry ∷ es) now)) (λ t. rw (u, t) now))

-- The entry of one more row is noted, where it fits.
pub noted : (fits : RowState → Bool) (rows : List Row) (i : ℕ) (row : Row) (test : Bool) (old new : List ℕ) → i < length rows → row ≡ get_or rows i row
    → test ≡ fits row.state → old ≡ entries_where fits (take i rows) → new ≡ (if test then old ++ row.entry ∷ [] else old) → new ≡ entries_where fits (take (i + 1) rows)
noted fits rows i row test old new lt is fit before after =
    let far : take (i + 1) rows ≡ take i rows ++ row ∷ [] = take_more rows i row lt ∙ ap (λ (r : Row). take i rows ++ r ∷ []) (sym is) in
    after ∙ ap (λ b. if b then old ++ row.entry ∷ [] else old) fit
    ∙ ap (λ (es : List ℕ). if fits row.state then es ++ row.entry ∷ [] else es) before
    ∙ sym (one_more fits (take i rows) row) ∙ sym (ap (entries_where fits) far)

pub all_noted : (fits : RowState → Bool) (rows : List Row) (i : ℕ) (entries : List ℕ) → length rows ≤ i → entries ≡ entries_where fits (take i rows) → entries ≡ entries_where fits rows
all_noted fits rows i entries le e = e ∙ ap (entries_where fits) (take_all i rows le)

pub rising_where : (fits : RowState → Bool) (rows : List Row) (i : ℕ) (entries : List ℕ) → length rows ≤ i → entries ≡ entries_where fits (take i rows) → IsHistory rows → Rising entries
rising_where fits rows i entries le e h =
    let all : entries ≡ entries_where fits rows = all_noted fits rows i entries le e in
    rw all (entries_rise fits rows h)
