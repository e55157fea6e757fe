-- Rows that are the same.
use Rattle.std.proofs.Common.{◌≡◌, ℕ, zero, suc, true, false, ◌+◌, ◌<◌, ◌≤◌, List, [], ◌∷◌, refl, ap, sym, ◌∙◌, arith, length, take}
use Rattle.std.proofs.lemmas.Bool.{eqb-true, and_parts}
use Rattle.std.proofs.lemmas.Option.{slice_get_past}
use Rattle.std.specs.Prelude.{Bool, Option, Some, None, ◌==◌, slice_get}
use Rattle.std.specs.Str.{bytes_eq}
use Rattle.history_keeper.specs.declared.row.Row.{Row}
use Rattle.history_keeper.specs.declared.row.RowState.{RowState}
use Rattle.update_log.proofs.Lists.{eqb-self}
use Rattle.update_log.proofs.Openings.{bytes-same, bytes-self}
use Rattle.daemon_core.specs.Comparing.{DifferFirstAt, number_of, same_optional, same_request, same_row, same_state, same_terms}

state-same : (a b : RowState) → (number_of a == number_of b) ≡ true → a ≡ b
state-same RowState.Pending RowState.Pending h = refl
state-same RowState.Success RowState.Success h = refl
state-same RowState.Failed RowState.Failed h = refl
state-same RowState.NeedsReboot RowState.NeedsReboot h = refl
state-same RowState.Begun RowState.Begun h = refl
state-same _ _ h = cc

optional-same : {A : Type 0} (same : A → A → Bool) → ((x y : A) → same x y ≡ true → x ≡ y) → (a b : Option A) → same_optional same a b ≡ true → a ≡ b
optional-same same is None None h = refl
optional-same same is (Some x) (Some y) h = ap (λ (z : _). Some z) (is x y h)
optional-same same is None (Some y) h = cc
optional-same same is (Some x) None h = cc

optional-self : {A : Type 0} (same : A → A → Bool) → ((x : A) → same x x ≡ true) → (a : Option A) → same_optional same a a ≡ true
optional-self same is None = refl
optional-self same is (Some x) = is x

pub row-same : (a b : Row) → same_row a b ≡ true → a ≡ b
row-same a b h =
    let all = and_parts _ (same_state a b) h in
    let both = and_parts (same_request a b) (same_terms a b) all.0 in
    let q3 = and_parts _ (same_optional (λ m n. m == n) a.retry_of b.retry_of) both.1 in
    let q2 = and_parts (a.duration == b.duration) (same_optional bytes_eq a.protocol b.protocol) q3.0 in
    let r9 = and_parts _ (a.flags == b.flags) both.0 in
    let r8 = and_parts _ (bytes_eq a.digest b.digest) r9.0 in
    let r7 = and_parts _ (bytes_eq a.version_new b.version_new) r8.0 in
    let r6 = and_parts _ (bytes_eq a.version_old b.version_old) r7.0 in
    let r5 = and_parts _ (bytes_eq a.component b.component) r6.0 in
    let r4 = and_parts _ (bytes_eq a.device b.device) r5.0 in
    let r3 = and_parts _ (a.client == b.client) r4.0 in
    let r2 = and_parts (a.entry == b.entry) (bytes_eq a.tag b.tag) r3.0 in
    let s4 = and_parts _ (a.time_changed == b.time_changed) all.1 in
    let s3 = and_parts _ (a.time_added == b.time_added) s4.0 in
    let s2 = and_parts (number_of a.state == number_of b.state) (a.reason == b.reason) s3.0 in
    let e1 : a.entry ≡ b.entry = eqb-true a.entry b.entry r2.0 in
    let e2 : a.tag ≡ b.tag = bytes-same a.tag b.tag r2.1 in
    let e3 : a.client ≡ b.client = eqb-true a.client b.client r3.1 in
    let e4 : a.device ≡ b.device = bytes-same a.device b.device r4.1 in
    let e5 : a.component ≡ b.component = bytes-same a.component b.component r5.1 in
    let e6 : a.version_old ≡ b.version_old = bytes-same a.version_old b.version_old r6.1 in
    let e7 : a.version_new ≡ b.version_new = bytes-same a.version_new b.version_new r7.1 in
    let e8 : a.digest ≡ b.digest = bytes-same a.digest b.digest r8.1 in
    let e9 : a.flags ≡ b.flags = eqb-true a.flags b.flags r9.1 in
    let f1 : a.state ≡ b.state = state-same a.state b.state s2.0 in
    let f2 : a.reason ≡ b.reason = eqb-true a.reason b.reason s2.1 in
    let f3 : a.time_added ≡ b.time_added = eqb-true a.time_added b.time_added s3.1 in
    let f4 : a.time_changed ≡ b.time_changed = eqb-true a.time_changed b.time_changed s4.1 in
    let g1 : a.duration ≡ b.duration = eqb-true a.duration b.duration q2.0 in
    let g2 : a.protocol ≡ b.protocol = optional-same bytes_eq bytes-same a.protocol b.protocol q2.1 in
    let g3 : a.retry_of ≡ b.retry_of = optional-same (λ m n. m == n) eqb-true a.retry_of b.retry_of q3.1 in
    let made : ℕ → List ℕ → ℕ → List ℕ → List ℕ → List ℕ → List ℕ → List ℕ → ℕ → RowState → ℕ → ℕ → ℕ → ℕ → Option (List ℕ) → Option ℕ → Row =
    λ n t c d m o v g f s r y z u p l. record { entry = n; tag = t; client = c; device = d; component = m; version_old = o; version_new = v; digest = g; flags = f; state = s; reason = r; time_added = y; time_changed = z; duration = u; protocol = p; retry_of = l } in
    ap (λ n. made n a.tag a.client a.device a.component a.version_old a.version_new a.digest a.flags a.state a.reason a.time_added a.time_changed a.duration a.protocol a.retry_of) e1
    ∙ ap (λ n. made b.entry n a.client a.device a.component a.version_old a.version_new a.digest a.flags a.state a.reason a.time_added a.time_changed a.duration a.protocol a.retry_of) e2
    ∙ ap (λ n. made b.entry b.tag n a.device a.component a.version_old a.version_new a.digest a.flags a.state a.reason a.time_added a.time_changed a.duration a.protocol a.retry_of) e3
    ∙ ap (λ n. made b.entry b.tag b.client n a.component a.version_old a.version_new a.digest a.flags a.state a.reason a.time_added a.time_changed a.duration a.protocol a.retry_of) e4
    ∙ ap (λ n. made b.entry b.tag b.client b.device n a.version_old a.version_new a.digest a.flags a.state a.reason a.time_added a.time_changed a.duration a.protocol a.retry_of) e5
    ∙ ap (λ n. made b.entry b.tag b.client b.device b.component n a.version_new a.digest a.flags a.state a.reason a.time_added a.time_changed a.duration a.protocol a.retry_of) e6
    ∙ ap (λ n. made b.entry b.tag b.client b.device b.component b.version_old n a.digest a.flags a.state a.reason a.time_added a.time_changed a.duration a.protocol a.retry_of) e7
    ∙ ap (λ n. made b.entry b.tag b.client b.device b.component b.version_old b.version_new n a.flags a.state a.reason a.time_added a.time_changed a.duration a.protocol a.retry_of) e8
    ∙ ap (λ n. made b.entry b.tag b.client b.device b.component b.version_old b.version_new b.digest n a.state a.reason a.time_added a.time_changed a.duration a.protocol a.retry_of) e9
    ∙ ap (λ n. made b.entry b.tag b.client b.device b.component b.version_old b.version_new b.digest b.flags n a.reason a.time_added a.time_changed a.duration a.protocol a.retry_of) f1
    ∙ ap (λ n. made b.entry b.tag b.client b.device b.component b.version_old b.version_new b.digest b.flags b.state n a.time_added a.time_changed a.duration a.protocol a.retry_of) f2
    ∙ ap (λ n. made b.entry b.tag b.client b.device b.component b.version_old b.version_new b.digest b.flags b.state b.reason n a.time_changed a.duration a.protocol a.retry_of) f3
    ∙ ap (λ n. made b.entry b.tag b.client b.device b.component b.version_old b.version_new b.digest b.flags b.state b.reason b.time_added n a.duration a.protocol a.retry_of) f4
    ∙ ap (λ n. made b.entry b.tag b.client b.device b.component b.version_old b.version_new b.digest b.flags b.state b.reason b.time_added b.time_changed n a.protocol a.retry_of) g1
    ∙ ap (λ n. made b.entry b.tag b.client b.device b.component b.version_old b.version_new b.digest b.flags b.state b.reason b.time_added b.time_changed b.duration n a.retry_of) g2
    ∙ ap (λ n. made b.entry b.tag b.client b.device b.component b.version_old b.version_new b.digest b.flags b.state b.reason b.time_added b.time_changed b.duration b.protocol n) g3

pub row-self : (a : Row) → same_row a a ≡ true
row-self a =
    rw (
      eqb-self a.entry,
      bytes-self a.tag,
      eqb-self a.client,
      bytes-self a.device,
      bytes-self a.component,
      bytes-self a.version_old,
      bytes-self a.version_new,
      bytes-self a.digest,
      eqb-self a.flags,
      eqb-self a.duration,
      optional-self bytes_eq bytes-self a.protocol,
      optional-self (λ m n. m == n) eqb-self a.retry_of,
      eqb-self (number_of a.state),
      eqb-self a.reason,
      eqb-self a.time_added,
      eqb-self a.time_changed,
    ) refl

-- one more row that is the same
pub take-same : (xs ys : List Row) (n : ℕ) → take n xs ≡ take n ys → slice_get xs n ≡ slice_get ys n → take (n + 1) xs ≡ take (n + 1) ys
take-same xs ys n e h = rw add-one-here (at xs ys n e h)
  where
    add-one-here : n + 1 ≡ suc n
    add-one-here = omega arith

    at : (xs ys : List Row) (n : ℕ) → take n xs ≡ take n ys → slice_get xs n ≡ slice_get ys n → take (suc n) xs ≡ take (suc n) ys
    at [] [] n e h = refl
    at [] (y ∷ ys) zero e h = cc
    at [] (y ∷ ys) (suc n) e h = cc
    at (x ∷ xs) [] zero e h = cc
    at (x ∷ xs) [] (suc n) e h = cc
    at (x ∷ xs) (y ∷ ys) zero e h = let s : x ≡ y = cc in rw s refl
    at (x ∷ xs) (y ∷ ys) (suc n) e h =
        let hd : x ≡ y = cc in
        let tl : take n xs ≡ take n ys = cc in
        let rest : take (suc n) xs ≡ take (suc n) ys = at xs ys n tl h in
        rw (hd, rest) refl

-- rows that differ
pub rows-differ : (a b : Row) → same_row a b ≡ false → Some a ≡ Some b → ⊥
rows-differ a b h e =
    let s : a ≡ b = cc in
    let t : same_row a b ≡ true = rw (← s) (row-self a) in cc

pub get-none : {X : Type 0} (xs : List X) (i : ℕ) → slice_get xs i ≡ None → length xs ≤ i
get-none [] i e = omega arith
get-none (x ∷ xs) zero e = cc
get-none (x ∷ xs) (suc i) e = let h = get-none xs i e in omega (arith, h)

-- one list ended
pub differ-right_ended : (left right : List Row) (at : ℕ) → take at left ≡ take at right → at ≡ length right → at < length left → DifferFirstAt left right at
differ-right_ended left right at s e l =
    record {
      before = s;
      here = λ g.
          let n : slice_get right at ≡ None = slice_get_past right at (omega (arith, e)) in
          let m : length left ≤ at = get-none left at (g ∙ n) in omega (arith, m, l);
    }

pub differ-left_ended : (left right : List Row) (at : ℕ) → take at left ≡ take at right → length left ≤ at → at < length right → DifferFirstAt left right at
differ-left_ended left right at s e l =
    record {
      before = s;
      here = λ g.
          let n : slice_get left at ≡ None = slice_get_past left at e in
          let m : length right ≤ at = get-none right at (sym g ∙ n) in omega (arith, m, l);
    }

-- both have a row there
pub differ-here : (left right : List Row) (at : ℕ) (a b : Row) → take at left ≡ take at right → slice_get left at ≡ Some a → slice_get right at ≡ Some b → same_row a b ≡ false → DifferFirstAt left right at
differ-here left right at a b s l r n = record { before = s; here = λ g. rows-differ a b n (sym l ∙ g ∙ r) }

pub same-here : (left right : List Row) (at : ℕ) (a b : Row) → take at left ≡ take at right → slice_get left at ≡ Some a → slice_get right at ≡ Some b → same_row a b ≡ true → take (at + 1) left ≡ take (at + 1) right
same-here left right at a b s l r t = take-same left right at s (l ∙ ap Some (row-same a b t) ∙ sym r)
