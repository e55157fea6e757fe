-- Of each device at most one row waits for its end, and which changes keep that.
use Rattle.std.proofs.Common.{◌≡◌, ℕ, zero, suc, Bool, true, false, ◌&&◌, List, [], ◌∷◌, ◌++◌, map, refl, ap, sym, ◌∙◌, ◌<◌, ◌≤◌, ◌+◌, arith, length, subst}
use Rattle.std.proofs.lemmas.Bool.{eqb-true, and_parts, and_from}
use Rattle.std.specs.Prelude.{Option, Some, IfSome, AllPairs, EachIndex, ◌==◌, option_map, slice_index, slice_index_or}
use Rattle.std.specs.List.{AllByRecursion, list_any}
use Rattle.std.specs.Str.{bytes_eq}
use Rattle.history_keeper.specs.Changes.{changed, with_state}
use Rattle.history_keeper.specs.Histories.{BothUnsettled, is_unsettled}
use Rattle.history_keeper.specs.declared.change.Change.{Change}
use Rattle.history_keeper.specs.declared.row.Row.{Row}
use Rattle.history_keeper.specs.declared.row.RowState.{RowState}
use Rattle.update_log.proofs.Lists.{by_test, eqb-other}
use Rattle.update_log.proofs.MarksKept.{how_many-append}
use Rattle.update_log.proofs.Openings.{EntriesFrom, bytes-same, bytes-self}
use Rattle.update_log.specs.Known.{Fate, row_of, rows_by, rows_found}
use Rattle.update_log.specs.Once.{how_many}
use Rattle.update_log.specs.declared.event.Found.{Found}

-- The row is of that device, and waits for its end.
abbrev pub waits_on : List ℕ → Row → Bool
waits_on device r = bytes_eq r.device device && is_unsettled r.state

-- Of each device at most one row waits.
abbrev pub WaitOnce : List Row → Type 0
WaitOnce rows = (device : List ℕ) → how_many (waits_on device) rows ≤ 1

-- The change keeps that: a row is added only where none of its device waits, and a row waits after it
-- only where it did before.
abbrev pub KeepsOnce : Change → List Row → Type 0
KeepsOnce (Change.Add row) rows = list_any (waits_on row.device) rows ≡ false
KeepsOnce (Change.Advance entry state reason time) rows =
    is_unsettled state ≡ true → AllByRecursion (λ r. (r.entry == entry) ≡ true → is_unsettled r.state ≡ true) rows

-- The state of an entry's row.
abbrev pub state_of : List Row → ℕ → Option RowState
state_of rows entry = option_map (λ r. r.state) (row_of rows entry)

-- How many rows of a device wait.

pub none-many : {X : Type 0} (p : X → Bool) (xs : List X) → list_any p xs ≡ false → how_many p xs ≡ 0
none-many p [] h = refl
none-many p (x ∷ xs) h =
    by_test (p x) _
    (λ t. let bad : true ≡ false = rw t at h in cc)
    (λ f. let rest : list_any p xs ≡ false = rw f at h in rw f (none-many p xs rest))

push-once : (rows : List Row) (row : Row) → list_any (waits_on row.device) rows ≡ false → WaitOnce rows → WaitOnce (rows ++ row ∷ [])
push-once rows row n w = λ device.
    let sum = how_many-append (waits_on device) rows (row ∷ []) in
    by_test (waits_on device row) _
    (λ t. let same : row.device ≡ device = bytes-same row.device device (and_parts (bytes_eq row.device device) (is_unsettled row.state) t).0 in
    let none : how_many (waits_on device) rows ≡ 0 = subst (λ (d : List ℕ). how_many (waits_on d) rows ≡ 0) same (none-many (waits_on row.device) rows n) in
    let one : how_many (waits_on device) (row ∷ []) ≡ 1 = rw t refl in
    omega (arith, sum, none, one))
    (λ f. let none : how_many (waits_on device) (row ∷ []) ≡ 0 = rw f refl in omega (arith, sum, none, w device))

map-many : (p : Row → Bool) (f : Row → Row) (rows : List Row) → AllByRecursion (λ r. p (f r) ≡ true → p r ≡ true) rows → how_many p (map f rows) ≤ how_many p rows
map-many p f [] a = omega arith
map-many p f (r ∷ rows) a =
    let rest : how_many p (map f rows) ≤ how_many p rows = map-many p f rows a.1 in
    by_test (p (f r)) _
    (λ t. let u : p r ≡ true = a.0 t in rw (t, u) (omega arith))
    (λ t. by_test (p r) _ (λ u. rw (t, u) (omega arith)) (λ u. rw (t, u) rest))

-- a row that waits once it has another state waited before
waited : (device : List ℕ) (entry : ℕ) (state : RowState) (reason time : ℕ) (r : Row) → (is_unsettled state ≡ true → (r.entry == entry) ≡ true → is_unsettled r.state ≡ true) → waits_on device (with_state entry state reason time r) ≡ true → waits_on device r ≡ true
waited device entry state reason time r k h =
    by_test (r.entry == entry) _
    (λ t. let made : with_state entry state reason time r ≡ record r { state = state; reason = reason; time_changed = time } = rw t refl in
    let new : (bytes_eq r.device device && is_unsettled state) ≡ true = ap (waits_on device) (sym made) ∙ h in
    let two = and_parts (bytes_eq r.device device) (is_unsettled state) new in
    and_from (bytes_eq r.device device) (is_unsettled r.state) two.0 (k two.1 t))
    (λ f. let same : with_state entry state reason time r ≡ r = rw f refl in ap (waits_on device) (sym same) ∙ h)

all-waited : (device : List ℕ) (entry : ℕ) (state : RowState) (reason time : ℕ) (rows : List Row) → KeepsOnce (Change.Advance entry state reason time) rows → AllByRecursion (λ r. waits_on device (with_state entry state reason time r) ≡ true → waits_on device r ≡ true) rows
all-waited device entry state reason time [] k = tt
all-waited device entry state reason time (r ∷ rows) k =
    (waited device entry state reason time r (λ u. (k u).0), all-waited device entry state reason time rows (λ u. (k u).1))

pub changed-once : (change : Change) (rows : List Row) → KeepsOnce change rows → WaitOnce rows → WaitOnce (changed change rows)
changed-once (Change.Add row) rows k w = push-once rows row k w
changed-once (Change.Advance entry state reason time) rows k w = λ device.
    omega (arith, map-many (waits_on device) (with_state entry state reason time) rows (all-waited device entry state reason time rows k), w device)

pub by-once : (fate : Fate) (change : Option Change) (rows : List Row) → IfSome change (λ c. KeepsOnce c rows) → WaitOnce rows → WaitOnce (rows_by fate change rows)
by-once Fate.Made (Some change) rows k w = changed-once change rows k w
by-once _ _ rows k w = w

pub found-once : (found : Found) (change : Option Change) (rows : List Row) → IfSome change (λ c. KeepsOnce c rows) → WaitOnce rows → WaitOnce (rows_found found change rows)
found-once Found.Kept (Some change) rows k w = changed-once change rows k w
found-once _ _ rows k w = w

-- The state of an entry's row after a change.

pub push-state : (rows : List Row) (row : Row) (e : ℕ) (state : RowState) → state_of rows e ≡ Some state → state_of (rows ++ row ∷ []) e ≡ Some state
push-state [] row e state h = cc
push-state (r ∷ rows) row e state h =
    by_test (r.entry == e) _
    (λ t. let here : Some r.state ≡ Some state = rw t at h in rw t here)
    (λ f. let rest : state_of rows e ≡ Some state = rw f at h in rw f (push-state rows row e state rest))

-- of another entry's
other-state : (entry : ℕ) (state : RowState) (reason time : ℕ) (rows : List Row) (e : ℕ) → (entry == e) ≡ false → state_of (map (with_state entry state reason time) rows) e ≡ state_of rows e
other-state entry state reason time [] e h = refl
other-state entry state reason time (r ∷ rows) e h =
    let rest : state_of (map (with_state entry state reason time) rows) e ≡ state_of rows e = other-state entry state reason time rows e h in
    by_test (r.entry == e) _
    (λ t. let apart : (r.entry == entry) ≡ false = eqb-other r.entry entry (λ s. differ (sym s ∙ eqb-true r.entry e t)) in rw (apart, t) refl)
    (λ t. by_test (r.entry == entry) _ (λ u. rw (u, t) rest) (λ u. rw (u, t) rest))
  where
    differ : entry ≡ e → ⊥
    differ s = let bad : (e == e) ≡ false = subst (λ (n : ℕ). (n == e) ≡ false) s h in let good : (e == e) ≡ true = self e in cc
      where
        self : (n : ℕ) → (n == n) ≡ true
        self n = grind arith

-- of its own
own-state : (entry : ℕ) (state : RowState) (reason time : ℕ) (rows : List Row) (before : RowState) → state_of rows entry ≡ Some before → state_of (map (with_state entry state reason time) rows) entry ≡ Some state
own-state entry state reason time [] before h = cc
own-state entry state reason time (r ∷ rows) before h =
    by_test (r.entry == entry) _
    (λ t. rw (t, t) refl)
    (λ f. let rest : state_of rows entry ≡ Some before = rw f at h in rw (f, f) (own-state entry state reason time rows before rest))

pub state-by : (fate : Fate) (entry : ℕ) (state : RowState) (reason time : ℕ) (rows : List Row) (e : ℕ) → (entry == e) ≡ false → state_of (rows_by fate (Some (Change.Advance entry state reason time)) rows) e ≡ state_of rows e
state-by Fate.Made entry state reason time rows e h = other-state entry state reason time rows e h
state-by Fate.Doubtful entry state reason time rows e h = refl
state-by Fate.Dropped entry state reason time rows e h = refl

pub state-made : (entry : ℕ) (state : RowState) (reason time : ℕ) (rows : List Row) (before : RowState) → state_of rows entry ≡ Some before → state_of (rows_by Fate.Made (Some (Change.Advance entry state reason time)) rows) entry ≡ Some state
state-made entry state reason time rows before h = own-state entry state reason time rows before h

-- Rows whose entries count from a number.

-- every row of an entry is the one that is found, and so has what its state has
past-entry : (P : RowState → Type 0) (n : ℕ) (rows : List Row) (e : ℕ) → EntriesFrom n rows → e < n → AllByRecursion (λ r. (r.entry == e) ≡ true → P r.state) rows
past-entry P n [] e v l = tt
past-entry P n (r ∷ rows) e v l = (
  λ t. let at : r.entry ≡ e = eqb-true r.entry e t in let q : r.entry ≡ n = v.0 in absurd (omega arith),
  past-entry P (n + 1) rows e v.1 (omega arith),
)

pub only-state : (P : RowState → Type 0) (n : ℕ) (rows : List Row) (e : ℕ) (state : RowState) → EntriesFrom n rows → state_of rows e ≡ Some state → P state → AllByRecursion (λ r. (r.entry == e) ≡ true → P r.state) rows
only-state P n [] e state v f u = tt
only-state P n (r ∷ rows) e state v f u =
    by_test (r.entry == e) _
    (λ t. let same : r.state ≡ state = (let h : Some r.state ≡ Some state = rw t at f in cc) in
    let here : P r.state = subst P (sym same) u in
    let at : r.entry ≡ e = eqb-true r.entry e t in
    let q : r.entry ≡ n = v.0 in
    (λ w. here, past-entry P (n + 1) rows e v.1 (omega arith)))
    (λ t. let rest : state_of rows e ≡ Some state = rw t at f in
    (λ w. let bad : true ≡ false = sym w ∙ t in cc, only-state P (n + 1) rows e state v.1 rest u))

pub only-waits : (n : ℕ) (rows : List Row) (e : ℕ) (state : RowState) → EntriesFrom n rows → state_of rows e ≡ Some state → is_unsettled state ≡ true → AllByRecursion (λ r. (r.entry == e) ≡ true → is_unsettled r.state ≡ true) rows
only-waits n rows e state v f u = only-state (λ s. is_unsettled s ≡ true) n rows e state v f u

-- each row is the one that its entry finds
above : (n : ℕ) (rows : List Row) → EntriesFrom n rows → AllByRecursion (λ r. n ≤ r.entry) rows
above n [] v = tt
above n (r ∷ rows) v = (let q : r.entry ≡ n = v.0 in omega arith, lower rows (above (n + 1) rows v.1))
  where
    lower : (rs : List Row) → AllByRecursion (λ r. n + 1 ≤ r.entry) rs → AllByRecursion (λ r. n ≤ r.entry) rs
    lower [] a = tt
    lower (r ∷ rs) a = (let h : n + 1 ≤ r.entry = a.0 in omega arith, lower rs a.1)

pub found-own : (n : ℕ) (rows : List Row) → EntriesFrom n rows → AllByRecursion (λ r. row_of rows r.entry ≡ Some r) rows
found-own n [] v = tt
found-own n (r ∷ rows) v = (
  rw (self r.entry) refl,
  later rows (above (n + 1) rows v.1) (found-own (n + 1) rows v.1),
)
  where
    self : (m : ℕ) → (m == m) ≡ true
    self m = grind arith

    later : (rs : List Row) → AllByRecursion (λ s. n + 1 ≤ s.entry) rs → AllByRecursion (λ s. row_of rows s.entry ≡ Some s) rs → AllByRecursion (λ s. row_of (r ∷ rows) s.entry ≡ Some s) rs
    later [] a f = tt
    later (s ∷ rs) a f = (
      let apart : (r.entry == s.entry) ≡ false = eqb-other r.entry s.entry (λ e. let q : r.entry ≡ n = v.0 in let l : n + 1 ≤ s.entry = a.0 in omega arith) in
          let here : row_of rows s.entry ≡ Some s = f.0 in rw apart here,
      later rs a.1 f.1,
    )

-- Valid histories, in this form.

alone : (device : List ℕ) (r : Row) (rows : List Row) → waits_on device r ≡ true → ((j : ℕ) (d : Row) → j < length rows → BothUnsettled r (slice_index_or rows j d) → ⊥) → how_many (waits_on device) rows ≡ 0
alone device r [] t h = refl
alone device r (s ∷ rows) t h =
    by_test (waits_on device s) _
    (λ u. let one = and_parts (bytes_eq r.device device) (is_unsettled r.state) t in
    let two = and_parts (bytes_eq s.device device) (is_unsettled s.state) u in
    absurd (h 0 s (omega arith) (bytes-same r.device device one.0 ∙ sym (bytes-same s.device device two.0), one.1, two.1)))
    (λ f. rw f (alone device r rows t (λ j d l. h (suc j) d (omega arith))))

pub waits-once : (rows : List Row) → AllPairs (λ a b. BothUnsettled a b → ⊥) rows → WaitOnce rows
waits-once rows h = λ device. at device rows h
  where
    at : (device : List ℕ) (rs : List Row) → AllPairs (λ a b. BothUnsettled a b → ⊥) rs → how_many (waits_on device) rs ≤ 1
    at device [] g = omega arith
    at device (r ∷ rs) g =
        let rest : how_many (waits_on device) rs ≤ 1 = at device rs (λ i j d l m. g (suc i) (suc j) d (omega arith) (omega arith)) in
        by_test (waits_on device r) _
        (λ t. let none : how_many (waits_on device) rs ≡ 0 = alone device r rs t (λ j d l. g 0 (suc j) d (omega arith) (omega arith)) in rw t (omega (arith, none)))
        (λ f. rw f rest)

pub one-at : (p : Row → Bool) (rows : List Row) (j : ℕ) (d : Row) → j < length rows → p (slice_index_or rows j d) ≡ true → 1 ≤ how_many p rows
one-at p [] j d l t = absurd (omega arith)
one-at p (r ∷ rows) zero d l t = rw t (omega arith)
one-at p (r ∷ rows) (suc j) d l t =
    let rest : 1 ≤ how_many p rows = one-at p rows j d (omega arith) t in
    by_test (p r) _ (λ u. rw u (omega arith)) (λ u. rw u rest)

pub two-at : (p : Row → Bool) (rows : List Row) (i j : ℕ) (d : Row) → i < j → j < length rows → p (slice_index_or rows i d) ≡ true → p (slice_index_or rows j d) ≡ true → 2 ≤ how_many p rows
two-at p [] i j d l m t u = absurd (omega arith)
two-at p (r ∷ rows) i zero d l m t u = absurd (omega arith)
two-at p (r ∷ rows) zero (suc j) d l m t u =
    let rest : 1 ≤ how_many p rows = one-at p rows j d (omega arith) u in rw t (omega arith)
two-at p (r ∷ rows) (suc i) (suc j) d l m t u =
    let rest : 2 ≤ how_many p rows = two-at p rows i j d (omega arith) (omega arith) t u in
    by_test (p r) _ (λ v. rw v (omega arith)) (λ v. rw v rest)

pub no-two-wait : (rows : List Row) → WaitOnce rows → AllPairs (λ a b. BothUnsettled a b → ⊥) rows
no-two-wait rows w = λ i j d l m both.
    let a = slice_index_or rows i d in
    let b = slice_index_or rows j d in
    let first : waits_on b.device a ≡ true = and_from (bytes_eq a.device b.device) (is_unsettled a.state) (ap (bytes_eq a.device) (sym both.0) ∙ bytes-self a.device) both.1 in
    let second : waits_on b.device b ≡ true = and_from (bytes_eq b.device b.device) (is_unsettled b.state) (bytes-self b.device) both.2 in
    let two : 2 ≤ how_many (waits_on b.device) rows = two-at (waits_on b.device) rows i j d l m first second in
    let one : how_many (waits_on b.device) rows ≤ 1 = w b.device in
    omega arith

entry-at : (n : ℕ) (r : Row) (rows : List Row) → r.entry ≡ n → EachIndex rows (λ k. slice_index (map (λ row. row.entry) rows) k ≡ k + (n + 1)) → (k : ℕ) → k < length (r ∷ rows) → slice_index (map (λ row. row.entry) (r ∷ rows)) k ≡ k + n
entry-at n r rows q rest zero l = omega arith
entry-at n r rows q rest (suc k) l = let next : slice_index (map (λ row. row.entry) rows) k ≡ k + (n + 1) = rest k (omega arith) in omega arith

pub each-entry : (n : ℕ) (rows : List Row) → EntriesFrom n rows → EachIndex rows (λ k. slice_index (map (λ row. row.entry) rows) k ≡ k + n)
each-entry n [] v = λ k l. absurd (omega arith)
each-entry n (r ∷ rows) v = λ k l. entry-at n r rows v.0 (each-entry (n + 1) rows v.1) k l
