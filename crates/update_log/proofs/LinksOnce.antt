-- Each row that tries another one again tries an earlier failed one of its device, and no two try the same one: in the form
-- that an induction takes, and which changes keep it. And which changes leave a failed row as it is.
use Rattle.std.proofs.Common.{◌≡◌, ℕ, zero, suc, Bool, true, false, List, [], ◌∷◌, ◌++◌, map, take, refl, ap, sym, ◌∙◌, ◌<◌, ◌≤◌, ◌+◌, arith, length, length-take, subst}
use Rattle.std.proofs.lemmas.Bool.{eqb-true}
use Rattle.std.proofs.lemmas.List.{get_or-take}
use Rattle.std.proofs.lemmas.List.Folds.{find-append}
use Rattle.std.proofs.lemmas.Option.{get_or_from_slice_get, slice_get-get_or, slice_get_within}
use Rattle.std.specs.Prelude.{Option, Some, None, Any, IfSome, AllPairs, ◌==◌, find, if◌then◌else◌, option_and_then, slice_get, slice_index_or}
use Rattle.std.specs.List.{AllByRecursion, list_any}
use Rattle.std.specs.Option.{option_or}
use Rattle.history_keeper.proofs.Failures.{failed-is}
use Rattle.history_keeper.proofs.Prefixes.{front-get}
use Rattle.history_keeper.specs.Changes.{changed, with_state}
use Rattle.history_keeper.specs.Histories.{AreLinked, BothRetry, IsFailure, RetriedOnce, is_failed, tries}
use Rattle.history_keeper.specs.declared.change.Change.{Change}
use Rattle.history_keeper.specs.declared.row.Row.{Row}
use Rattle.history_keeper.specs.declared.row.RowState.{RowState}
use Rattle.update_log.proofs.Lists.{All-map, All-push, by_test, eqb-self, find-passes}
use Rattle.update_log.proofs.MarksKept.{how_many-append}
use Rattle.update_log.proofs.Openings.{EntriesFrom}
use Rattle.update_log.proofs.RowsKept.{with_state-fixed}
use Rattle.update_log.proofs.WaitsOnce.{found-own, none-many, two-at}
use Rattle.update_log.specs.Known.{Fate, row_of, rows_by, rows_found}
use Rattle.update_log.specs.Once.{how_many}
use Rattle.update_log.specs.declared.event.Found.{Found}

-- The device of an entry's row, where that row has failed.
abbrev pub failure_of : List Row → ℕ → Option (List ℕ)
failure_of rows entry = option_and_then (λ r. if is_failed r.state then Some r.device else None) (row_of rows entry)

-- The row that a row tries again is earlier, has failed and is of the same device.
abbrev pub LinkIn : List Row → Row → Type 0
LinkIn rows r = IfSome r.retry_of (λ entry. (entry < r.entry) × (failure_of rows entry ≡ Some r.device))

abbrev pub AllLinked : List Row → Type 0
AllLinked rows = AllByRecursion (LinkIn rows) rows

-- At most one row tries a row again.
abbrev pub TriedOnce : List Row → Type 0
TriedOnce rows = (entry : ℕ) → how_many (tries entry) rows ≤ 1

-- A failed row stays as it is.
abbrev pub KeepsFailures : List Row → List Row → Type 0
KeepsFailures old new = (entry : ℕ) (r : Row) → row_of old entry ≡ Some r → is_failed r.state ≡ true → row_of new entry ≡ Some r

-- The change keeps these: a row that is added tries a failed row of its device again that none tries, or none, and no failed row
-- gets another state.
abbrev pub KeepsLinks : Change → List Row → Type 0
KeepsLinks (Change.Add row) rows =
    IfSome row.retry_of (λ entry. (entry < row.entry) × (failure_of rows entry ≡ Some row.device) × (list_any (tries entry) rows ≡ false))
KeepsLinks (Change.Advance entry state reason time) rows = AllByRecursion (λ r. (r.entry == entry) ≡ true → is_failed r.state ≡ false) rows

-- ---- failed rows

-- What a failure is found from, and what is found of one.
pub failure-from : (rows : List Row) (entry : ℕ) (device : List ℕ) (o : Option Row) → row_of rows entry ≡ o → failure_of rows entry ≡ Some device → (r : Row) × (row_of rows entry ≡ Some r) × (is_failed r.state ≡ true) × (r.device ≡ device)
failure-from rows entry device None is f = let bad : None ≡ Some device = rw is at f in cc
failure-from rows entry device (Some r) is f =
    let told : (if is_failed r.state then Some r.device else None) ≡ Some device = rw is at f in
    by_test (is_failed r.state) _
    (λ t. let here : Some r.device ≡ Some device = rw t at told in (r, is, t, cc))
    (λ t. let bad : None ≡ Some device = rw t at told in cc)

pub failure-of : (rows : List Row) (entry : ℕ) (r : Row) → row_of rows entry ≡ Some r → is_failed r.state ≡ true → failure_of rows entry ≡ Some r.device
failure-of rows entry r is f = rw is (rw f refl)

pub failure-kept : (old new : List Row) (entry : ℕ) (device : List ℕ) → KeepsFailures old new → failure_of old entry ≡ Some device → failure_of new entry ≡ Some device
failure-kept old new entry device k f =
    let r = failure-from old entry device (row_of old entry) refl f in
    failure-of new entry r.0 (k entry r.0 r.1 r.2) r.2 ∙ ap Some r.3

-- One row more leaves them.
pub push-failures : (rows : List Row) (row : Row) → KeepsFailures rows (rows ++ row ∷ [])
push-failures rows row = λ entry r is f.
    find-append (λ x. x.entry == entry) rows (row ∷ []) ∙ ap (λ o. option_or o (row_of (row ∷ []) entry)) is

-- So does another state of a row that hasn't failed.
stated-entry : (entry : ℕ) (state : RowState) (reason time : ℕ) (r : Row) → (with_state entry state reason time r).entry ≡ r.entry
stated-entry entry state reason time r = ap (λ (x : Row). x.entry) (with_state-fixed entry state reason time r)

stated-failed : (entry : ℕ) (state : RowState) (reason time : ℕ) (rows : List Row) (e : ℕ) (r : Row) → KeepsLinks (Change.Advance entry state reason time) rows → row_of rows e ≡ Some r → is_failed r.state ≡ true → row_of (map (with_state entry state reason time) rows) e ≡ Some r
stated-failed entry state reason time [] e r k is f = cc
stated-failed entry state reason time (x ∷ rows) e r k is f =
    by_test (x.entry == e) _
    (λ t. let here : Some x ≡ Some r = rw t at is in
    let same : x ≡ r = cc in
    let failed : is_failed x.state ≡ true = ap (λ (y : Row). is_failed y.state) same ∙ f in
    let apart : (x.entry == entry) ≡ false = by_test (x.entry == entry) _ (λ u. let bad : true ≡ false = sym failed ∙ k.0 u in cc) (λ u. u) in
    rw apart (rw t here))
    (λ t. let rest : row_of rows e ≡ Some r = rw t at is in
    let still : ((with_state entry state reason time x).entry == e) ≡ false = ap (λ n. n == e) (stated-entry entry state reason time x) ∙ t in
    rw still (stated-failed entry state reason time rows e r k.1 rest f))

pub changed-failures : (change : Change) (rows : List Row) → KeepsLinks change rows → KeepsFailures rows (changed change rows)
changed-failures (Change.Add row) rows k = push-failures rows row
changed-failures (Change.Advance entry state reason time) rows k = λ e r is f. stated-failed entry state reason time rows e r k is f

pub by-failures : (fate : Fate) (change : Option Change) (rows : List Row) → IfSome change (λ c. KeepsLinks c rows) → KeepsFailures rows (rows_by fate change rows)
by-failures Fate.Made (Some change) rows k = changed-failures change rows k
by-failures _ _ rows k = λ e r is f. is

pub found-failures : (found : Found) (change : Option Change) (rows : List Row) → IfSome change (λ c. KeepsLinks c rows) → KeepsFailures rows (rows_found found change rows)
found-failures Found.Kept (Some change) rows k = changed-failures change rows k
found-failures _ _ rows k = λ e r is f. is

-- ---- links

-- A row that is linked is so in rows that keep the failed ones.
link-grows : (old new : List Row) (r : Row) → KeepsFailures old new → LinkIn old r → LinkIn new r
link-grows old new r k h = at r.retry_of h
  where
    at : (o : Option ℕ) → IfSome o (λ entry. (entry < r.entry) × (failure_of old entry ≡ Some r.device)) → IfSome o (λ entry. (entry < r.entry) × (failure_of new entry ≡ Some r.device))
    at None g = tt
    at (Some entry) g = (g.0, failure-kept old new entry r.device k g.1)

-- Another state of a row leaves what it tries again.
link-stated : (entry : ℕ) (state : RowState) (reason time : ℕ) (rows : List Row) (r : Row) → LinkIn rows r → LinkIn rows (with_state entry state reason time r)
link-stated entry state reason time rows r h = subst (LinkIn rows) (sym (with_state-fixed entry state reason time r)) h

all-stated : (entry : ℕ) (state : RowState) (reason time : ℕ) (all rows : List Row) → AllByRecursion (LinkIn all) rows → AllByRecursion (LinkIn all) (map (with_state entry state reason time) rows)
all-stated entry state reason time all [] h = tt
all-stated entry state reason time all (r ∷ rows) h =
    (link-stated entry state reason time all r h.0, all-stated entry state reason time all rows h.1)

pub changed-links : (change : Change) (rows : List Row) → KeepsLinks change rows → AllLinked rows → AllLinked (changed change rows)
changed-links (Change.Add row) rows k h =
    All-push (LinkIn (rows ++ row ∷ [])) rows row
    (All-map (LinkIn rows) (LinkIn (rows ++ row ∷ [])) rows h (λ r l. link-grows rows (rows ++ row ∷ []) r (push-failures rows row) l))
    (new row.retry_of k)
  where
    new : (o : Option ℕ) → IfSome o (λ entry. (entry < row.entry) × (failure_of rows entry ≡ Some row.device) × (list_any (tries entry) rows ≡ false)) → IfSome o (λ entry. (entry < row.entry) × (failure_of (rows ++ row ∷ []) entry ≡ Some row.device))
    new None g = tt
    new (Some entry) g = (g.0, failure-kept rows (rows ++ row ∷ []) entry row.device (push-failures rows row) g.1)
changed-links (Change.Advance entry state reason time) rows k h =
    All-map (LinkIn rows) (LinkIn (map (with_state entry state reason time) rows)) (map (with_state entry state reason time) rows)
    (all-stated entry state reason time rows rows h)
    (λ r l. link-grows rows (map (with_state entry state reason time) rows) r (changed-failures (Change.Advance entry state reason time) rows k) l)

pub by-links : (fate : Fate) (change : Option Change) (rows : List Row) → IfSome change (λ c. KeepsLinks c rows) → AllLinked rows → AllLinked (rows_by fate change rows)
by-links Fate.Made (Some change) rows k h = changed-links change rows k h
by-links _ _ rows k h = h

pub found-links : (found : Found) (change : Option Change) (rows : List Row) → IfSome change (λ c. KeepsLinks c rows) → AllLinked rows → AllLinked (rows_found found change rows)
found-links Found.Kept (Some change) rows k h = changed-links change rows k h
found-links _ _ rows k h = h

-- ---- no two rows try the same one again

-- What a row tries again, by the test and by its field.
pub named-tries : (entry : ℕ) (r : Row) → r.retry_of ≡ Some entry → tries entry r ≡ true
named-tries entry r is = rw is (eqb-self entry)

pub tries-named : (entry : ℕ) (r : Row) (o : Option ℕ) → r.retry_of ≡ o → tries entry r ≡ true → r.retry_of ≡ Some entry
tries-named entry r None is t = let bad : false ≡ true = rw is at t in cc
tries-named entry r (Some e) is t = let same : (e == entry) ≡ true = rw is at t in is ∙ ap Some (eqb-true e entry same)

map-same : (p : Row → Bool) (f : Row → Row) (rows : List Row) → ((r : Row) → p (f r) ≡ p r) → how_many p (map f rows) ≡ how_many p rows
map-same p f [] h = refl
map-same p f (r ∷ rows) h =
    let rest : how_many p (map f rows) ≡ how_many p rows = map-same p f rows h in
    let here : p (f r) ≡ p r = h r in
    by_test (p r) _
    (λ t. rw (here, t, rest) refl)
    (λ t. rw (here, t, rest) refl)

push-tried : (rows : List Row) (row : Row) → KeepsLinks (Change.Add row) rows → TriedOnce rows → TriedOnce (rows ++ row ∷ [])
push-tried rows row k w = λ entry.
    let sum = how_many-append (tries entry) rows (row ∷ []) in
    by_test (tries entry row) _
    (λ t. let none : how_many (tries entry) rows ≡ 0 = none-many (tries entry) rows (free entry row.retry_of k (tries-named entry row row.retry_of refl t)) in
    let one : how_many (tries entry) (row ∷ []) ≡ 1 = rw t refl in
    omega (arith, sum, none, one))
    (λ f. let none : how_many (tries entry) (row ∷ []) ≡ 0 = rw f refl in omega (arith, sum, none, w entry))
  where
    free : (entry : ℕ) (o : Option ℕ) → IfSome o (λ e. (e < row.entry) × (failure_of rows e ≡ Some row.device) × (list_any (tries e) rows ≡ false)) → o ≡ Some entry → list_any (tries entry) rows ≡ false
    free entry None g is = cc
    free entry (Some e) g is = let same : e ≡ entry = cc in subst (λ (n : ℕ). list_any (tries n) rows ≡ false) same g.2

pub changed-tried : (change : Change) (rows : List Row) → KeepsLinks change rows → TriedOnce rows → TriedOnce (changed change rows)
changed-tried (Change.Add row) rows k w = push-tried rows row k w
changed-tried (Change.Advance entry state reason time) rows k w = λ e.
    let same = map-same (tries e) (with_state entry state reason time) rows (λ r. ap (λ (x : Row). tries e x) (with_state-fixed entry state reason time r)) in
    omega (arith, same, w e)

pub by-tried : (fate : Fate) (change : Option Change) (rows : List Row) → IfSome change (λ c. KeepsLinks c rows) → TriedOnce rows → TriedOnce (rows_by fate change rows)
by-tried Fate.Made (Some change) rows k w = changed-tried change rows k w
by-tried _ _ rows k w = w

pub found-tried : (found : Found) (change : Option Change) (rows : List Row) → IfSome change (λ c. KeepsLinks c rows) → TriedOnce rows → TriedOnce (rows_found found change rows)
found-tried Found.Kept (Some change) rows k w = changed-tried change rows k w
found-tried _ _ rows k w = w

-- ---- valid histories, in this form

All-from-get : (P : Row → Type 0) (rows : List Row) → ((at : ℕ) (r : Row) → slice_get rows at ≡ Some r → P r) → AllByRecursion P rows
All-from-get P [] h = tt
All-from-get P (r ∷ rows) h = (h 0 r refl, All-from-get P rows (λ at x e. h (suc at) x e))

All-get : (P : Row → Type 0) (rows : List Row) (at : ℕ) (r : Row) → AllByRecursion P rows → slice_get rows at ≡ Some r → P r
All-get P [] at r h e = cc
All-get P (x ∷ rows) zero r h e = let same : x ≡ r = cc in subst P same h.0
All-get P (x ∷ rows) (suc at) r h e = All-get P rows at r h.1 e

-- the row at a place has the entry of that place
entry-get : (n : ℕ) (rows : List Row) (at : ℕ) (r : Row) → EntriesFrom n rows → slice_get rows at ≡ Some r → r.entry ≡ at + n
entry-get n [] at r v e = cc
entry-get n (x ∷ rows) zero r v e =
    let same : x ≡ r = cc in
    let here : x.entry ≡ n = v.0 in
    let there : r.entry ≡ n = subst (λ (y : Row). y.entry ≡ n) same here in omega (arith, there)
entry-get n (x ∷ rows) (suc at) r v e = let rest : r.entry ≡ at + (n + 1) = entry-get (n + 1) rows at r v.1 e in omega (arith, rest)

-- what is found stands at a place
find-place : (p : Row → Bool) (rows : List Row) (r : Row) → find p rows ≡ Some r → (at : ℕ) × (slice_get rows at ≡ Some r)
find-place p [] r e = cc
find-place p (x ∷ rows) r e =
    by_test (p x) _
    (λ t. let here : Some x ≡ Some r = rw t at e in (0, here))
    (λ t. let rest = find-place p rows r (rw t at e) in (suc rest.0, rest.1))

-- Of a valid history each row is linked so,
pub all-linked : (rows : List Row) → EntriesFrom 1 rows → AreLinked rows → AllLinked rows
all-linked rows v h = All-from-get (LinkIn rows) rows (λ at r there. one at r there r.retry_of (h at r there))
  where
    one : (at : ℕ) (r : Row) → slice_get rows at ≡ Some r → (o : Option ℕ) → IfSome o (λ entry. Any (IsFailure entry r.device) (take at rows)) → IfSome o (λ entry. (entry < r.entry) × (failure_of rows entry ≡ Some r.device))
    one at r there None g = tt
    one at r there (Some entry) (j, x, within, here, f) =
        let front : slice_get (take at rows) j ≡ Some x = slice_get-get_or (take at rows) j x within ∙ ap Some here in
        let place = front-get rows at j x front in
        let mine : r.entry ≡ at + 1 = entry-get 1 rows at r v there in
        let its : x.entry ≡ j + 1 = entry-get 1 rows j x v place.1 in
        let named : x.entry ≡ entry = f.entry_is in
        let own : row_of rows x.entry ≡ Some x = All-get (λ y. row_of rows y.entry ≡ Some y) rows j x (found-own 1 rows v) place.1 in
        let is : row_of rows entry ≡ Some x = subst (λ (n : ℕ). row_of rows n ≡ Some x) named own in
        let low : j < at = place.0 in
        (omega (arith, mine, its, named, low), failure-of rows entry x is (ap is_failed f.failed) ∙ ap Some f.device_is)

-- and so is it a valid history.
pub are-linked : (rows : List Row) → EntriesFrom 1 rows → AllLinked rows → AreLinked rows
are-linked rows v h = λ at r there. one at r there r.retry_of (All-get (LinkIn rows) rows at r h there)
  where
    one : (at : ℕ) (r : Row) → slice_get rows at ≡ Some r → (o : Option ℕ) → IfSome o (λ entry. (entry < r.entry) × (failure_of rows entry ≡ Some r.device)) → IfSome o (λ entry. Any (IsFailure entry r.device) (take at rows))
    one at r there None g = tt
    one at r there (Some entry) g =
        let x = failure-from rows entry r.device (row_of rows entry) refl g.1 in
        let named : x.0.entry ≡ entry = eqb-true x.0.entry entry (find-passes (λ y. y.entry == entry) rows x.0 x.1) in
        let place = find-place (λ y. y.entry == entry) rows x.0 x.1 in
        let mine : r.entry ≡ at + 1 = entry-get 1 rows at r v there in
        let its : x.0.entry ≡ place.0 + 1 = entry-get 1 rows place.0 x.0 v place.1 in
        let before : entry < r.entry = g.0 in
        let low : place.0 < at = omega (arith, mine, its, named, before) in
        let far : place.0 < length rows = slice_get_within rows place.0 x.0 place.1 in
        let within : place.0 < length (take at rows) = omega (arith, length-take at rows, low, far) in (
          place.0,
          x.0,
          within,
          get_or-take at rows place.0 x.0 low ∙ get_or_from_slice_get rows place.0 x.0 x.0 place.1,
          record { entry_is = named; device_is = x.3; failed = failed-is x.0.state x.2 },
        )

-- No two rows try one again, in both forms.
alone : (entry : ℕ) (r : Row) (rows : List Row) → tries entry r ≡ true → ((j : ℕ) (d : Row) → j < length rows → BothRetry r (slice_index_or rows j d) → ⊥) → how_many (tries entry) rows ≡ 0
alone entry r [] t h = refl
alone entry r (s ∷ rows) t h =
    by_test (tries entry s) _
    (λ u. absurd (h 0 s (omega arith) (entry, tries-named entry r r.retry_of refl t, tries-named entry s s.retry_of refl u)))
    (λ f. rw f (alone entry r rows t (λ j d l. h (suc j) d (omega arith))))

pub tried-once : (rows : List Row) → RetriedOnce rows → TriedOnce rows
tried-once rows h = λ entry. at entry rows h
  where
    at : (entry : ℕ) (rs : List Row) → AllPairs (λ a b. BothRetry a b → ⊥) rs → how_many (tries entry) rs ≤ 1
    at entry [] g = omega arith
    at entry (r ∷ rs) g =
        let rest : how_many (tries entry) rs ≤ 1 = at entry rs (λ i j d l m. g (suc i) (suc j) d (omega arith) (omega arith)) in
        by_test (tries entry r) _
        (λ t. let none : how_many (tries entry) rs ≡ 0 = alone entry r rs t (λ j d l. g 0 (suc j) d (omega arith) (omega arith)) in rw t (omega (arith, none)))
        (λ f. rw f rest)

pub no-two-try : (rows : List Row) → TriedOnce rows → RetriedOnce rows
no-two-try rows w = λ i j d l m both.
    let entry = both.0 in
    let a = slice_index_or rows i d in
    let b = slice_index_or rows j d in
    let first : tries entry a ≡ true = named-tries entry a both.1 in
    let second : tries entry b ≡ true = named-tries entry b both.2 in
    let two : 2 ≤ how_many (tries entry) rows = two-at (tries entry) rows i j d l m first second in
    let one : how_many (tries entry) rows ≤ 1 = w entry in
    omega arith
