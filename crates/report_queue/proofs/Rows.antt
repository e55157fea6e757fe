-- Rows that are found one after the other; what is known of rows that are due.
use Rattle.std.proofs.Common.{◌≡◌, ℕ, zero, suc, ◌+◌, ◌<◌, ◌≤◌, arith, Bool, true, false, not, List, [], ◌∷◌, ◌++◌, length, map, take, drop, filter, get_or, if◌then◌else◌, refl, sym, ap, subst, ◌∙◌}
use Rattle.std.specs.Prelude.{All, AllPairs, Contains, ◌==◌}
use Rattle.std.proofs.lemmas.List.{get_or-map, get_or-take, get_or_read, length-append, length-take, take-append-drop, take_all, take_at, take_more}
use Rattle.std.proofs.lemmas.List.Elements.{All-contains, All-contains_itself, All-filter, All-map, All-take, All-weaker, filter-append, filter_passes}
use Rattle.std.proofs.lemmas.List.Kept.{AllPairs-filter}
use Rattle.std.proofs.lemmas.Bool.{eq-eqb, and_parts}
use Rattle.history_keeper.proofs.Numbered.{by_test}
use Rattle.history_keeper.specs.declared.row.Row.{Row}
use Rattle.history_keeper.specs.Histories.{IsHistory}
use Rattle.history_keeper.proofs.Prefixes.{front-pairs}
use Rattle.report_queue.specs.Sending.{due, entries_of, is_due, is_judged, is_marked}

-- ---- the first that pass a test

-- So many were found.
pub found_enough : (p : Row → Bool) (rows found : List Row) (i n : ℕ) → found ≡ filter p (take i rows) → length found ≡ n → found ≡ take n (filter p rows)
found_enough p rows found i n h long =
    let parts : filter p rows ≡ found ++ filter p (drop i rows) =
    ap (filter p) (sym (take-append-drop i rows)) ∙ filter-append p (take i rows) (drop i rows) ∙ ap (λ (xs : List Row). xs ++ filter p (drop i rows)) (sym h) in
    sym (ap (take n) parts ∙ take_at found (filter p (drop i rows)) n long)

-- All were looked at, and no more were found.
pub found_all : (p : Row → Bool) (rows found : List Row) (i n : ℕ) → found ≡ filter p (take i rows) → length rows ≤ i → length found ≤ n → found ≡ take n (filter p rows)
found_all p rows found i n h le few =
    let all : found ≡ filter p rows = h ∙ ap (filter p) (take_all i rows le) in
    sym (ap (take n) (sym all) ∙ take_all n found few)

one_more : (p : Row → Bool) (rows : List Row) (row : Row) → filter p (rows ++ row ∷ []) ≡ (if p row then filter p rows ++ row ∷ [] else filter p rows)
one_more p [] row = by_test (p row) _ (λ t. rw t refl) (λ t. rw t refl)
one_more p (x ∷ rows) row =
    let rest : filter p (rows ++ row ∷ []) ≡ (if p row then filter p rows ++ row ∷ [] else filter p rows) = one_more p rows row in
    by_test (p row) _
    (λ u. let now : filter p (rows ++ row ∷ []) ≡ filter p rows ++ row ∷ [] = rw u at rest in
    by_test (p x) _ (λ t. rw (u, t) (ap (λ (rs : List Row). x ∷ rs) now)) (λ t. rw (u, t) now))
    (λ u. let now : filter p (rows ++ row ∷ []) ≡ filter p rows = rw u at rest in
    by_test (p x) _ (λ t. rw (u, t) (ap (λ (rs : List Row). x ∷ rs) now)) (λ t. rw (u, t) now))

-- One row more was looked at.
pub found_more : (p : Row → Bool) (rows found next : List Row) (i : ℕ) (row : Row) (test : Bool) → i < length rows → row ≡ get_or rows i row → found ≡ filter p (take i rows)
    → test ≡ p row → next ≡ (if test then found ++ row ∷ [] else found) → next ≡ filter p (take (i + 1) rows)
found_more p rows found next i row test within is h fits after =
    after ∙ ap (λ b. if b then found ++ row ∷ [] else found) fits
    ∙ ap (λ (rs : List Row). if p row then rs ++ row ∷ [] else rs) h
    ∙ sym (one_more p (take i rows) row)
    ∙ ap (filter p) (ap (λ (r : Row). take i rows ++ r ∷ []) is ∙ sym (take_more rows i row within))

pub few_more : (found next : List Row) (row : Row) (test : Bool) (n : ℕ) → next ≡ (if test then found ++ row ∷ [] else found) → length found ≤ n → (length found ≡ n → ⊥) → length next ≤ n
few_more found next row true n h few other = omega (arith, ap length h, length-append found (row ∷ []), other)
few_more found next row false n h few other = omega (arith, ap length h)

-- ---- the rows that are due

rows-rise : (rows : List Row) → IsHistory rows → AllPairs (λ (a b : Row). a.entry < b.entry) rows
rows-rise rows h i j d lt within =
    let first : get_or (map (λ (r : Row). r.entry) rows) i 0 ≡ (get_or rows i d).entry = get_or-map (λ (r : Row). r.entry) rows i d 0 (omega arith) in
    let second : get_or (map (λ (r : Row). r.entry) rows) j 0 ≡ (get_or rows j d).entry = get_or-map (λ (r : Row). r.entry) rows j d 0 within in
    let one : get_or (map (λ (r : Row). r.entry) rows) i 0 ≡ i + 1 = h.entries i (omega arith) in
    let two : get_or (map (λ (r : Row). r.entry) rows) j 0 ≡ j + 1 = h.entries j within in
    omega arith

pub due-rise : (rows : List Row) (marks : List ℕ) (n : ℕ) → IsHistory rows → AllPairs (λ (a b : Row). a.entry < b.entry) (take n (due marks rows))
due-rise rows marks n h =
    front-pairs (λ (a b : Row). a.entry < b.entry) (due marks rows) n
    (AllPairs-filter (λ (a b : Row). a.entry < b.entry) (is_due marks) rows (rows-rise rows h))

pub due-of_rows : (rows : List Row) (marks : List ℕ) (n : ℕ) → All (λ row. Contains rows row) (take n (due marks rows))
due-of_rows rows marks n = All-take (Contains rows) n (due marks rows) (All-filter (is_due marks) (Contains rows) rows (All-contains_itself rows))

pub due-judged : (rows : List Row) (marks : List ℕ) (n : ℕ) → All (λ row. is_judged row.state ≡ true) (take n (due marks rows))
due-judged rows marks n =
    All-take (λ (row : Row). is_judged row.state ≡ true) n (due marks rows)
    (All-weaker (λ (row : Row). is_due marks row ≡ true) (λ (row : Row). is_judged row.state ≡ true)
    (λ row h. (and_parts (is_judged row.state) (not (is_marked marks row.entry)) h).0) (due marks rows) (filter_passes (is_due marks) rows))

-- An entry that is among the marks is found there.
marked-there : (marks : List ℕ) (entry : ℕ) → Contains marks entry → is_marked marks entry ≡ true
marked-there [] entry (k, within, same) = absurd (omega arith)
marked-there (mark ∷ marks) entry (zero, within, same) =
    let yes : (entry == mark) ≡ true = eq-eqb entry mark (sym same) in rw yes refl
marked-there (mark ∷ marks) entry (suc k, within, same) =
    let rest : is_marked marks entry ≡ true = marked-there marks entry (k, omega arith, same) in
    by_test (entry == mark) _ (λ t. rw t refl) (λ t. rw t rest)

pub due-unmarked : (rows : List Row) (marks : List ℕ) (n : ℕ) → All (λ row. Contains marks row.entry → ⊥) (take n (due marks rows))
due-unmarked rows marks n =
    All-take (λ (row : Row). Contains marks row.entry → ⊥) n (due marks rows)
    (All-weaker (λ (row : Row). is_due marks row ≡ true) (λ (row : Row). Contains marks row.entry → ⊥)
    (λ row h there. let no : not (is_marked marks row.entry) ≡ true = (and_parts (is_judged row.state) (not (is_marked marks row.entry)) h).1 in
    let yes : is_marked marks row.entry ≡ true = marked-there marks row.entry there in
    not-true (is_marked marks row.entry) yes no) (due marks rows) (filter_passes (is_due marks) rows))
  where
    not-true : (b : Bool) → b ≡ true → not b ≡ true → ⊥
    not-true true y n = cc
    not-true false y n = cc

-- ---- rows that rise

-- The entries before a place are lower than the one there.
pub lower-before : (rows : List Row) (at : ℕ) (row : Row) → at < length rows → row ≡ get_or rows at row → AllPairs (λ (a b : Row). a.entry < b.entry) rows → All (λ (n : ℕ). n < row.entry) (entries_of (take at rows))
lower-before rows at row within is rising =
    All-map (λ (n : ℕ). n < row.entry) (λ (r : Row). r.entry) (take at rows)
    (λ k d lt.
    let low : k < at = omega (arith, length-take at rows) in
    let P : Row → Type 0 = λ r. r.entry < row.entry in
    let Q : Row → Type 0 = λ r. (get_or rows k d).entry < r.entry in
    subst P (sym (get_or-take at rows k d low)) (subst Q (sym (get_or_read rows at row within is d)) (rising k at d low within)))

pub not_before : (rows : List Row) (at : ℕ) (row : Row) → at < length rows → row ≡ get_or rows at row → AllPairs (λ (a b : Row). a.entry < b.entry) rows → Contains (entries_of (take at rows)) row.entry → ⊥
not_before rows at row within is rising there =
    let less : row.entry < row.entry = All-contains (λ (n : ℕ). n < row.entry) (entries_of (take at rows)) row.entry (lower-before rows at row within is rising) there in
    omega arith
