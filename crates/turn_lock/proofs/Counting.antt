-- Lemmas on lists that are read by place, on counts over them, and on entries of a number.
use Rattle.std.proofs.Common.{◌≡◌, ◌≢◌, ℕ, zero, suc, ◌+◌, ◌%◌, ◌<◌, ◌≤◌, ◌⊎◌, List, [], ◌∷◌, ◌++◌, All, length, get_or, set, sum_by, sym, refl, ap, ◌∙◌, inl, inr, ⊎_elim, arith, eq-eqb, ne_eqb, length-append}
use Rattle.std.proofs.lemmas.List.Elements.{All-head, All-tail}
use Rattle.std.proofs.lemmas.List.Sums.{sum_by-cons, sum_by-set}
use mathlib.Core.Option.{some, some-injective, some-ne-none}
use lib.ListN.{get_elem?}
use Rattle.turn_lock.specs.Lists.{beyond, made_by}

module _ {A : Type 0} where
  pub at_within : (l : List A) (i : ℕ) (a : A) → get_elem? l i ≡ some a → i < length l
  at_within [] i a e = absurd (some-ne-none a (sym e))
  at_within (x ∷ xs) zero a e = omega arith
  at_within (x ∷ xs) (suc i) a e = let h = at_within xs i a e in omega arith

  pub at_reads : (l : List A) (i : ℕ) (a d : A) → get_elem? l i ≡ some a → get_or l i d ≡ a
  at_reads [] i a d e = absurd (some-ne-none a (sym e))
  at_reads (x ∷ xs) zero a d e = some-injective x a e
  at_reads (x ∷ xs) (suc i) a d e = at_reads xs i a d e

  -- the items of a list with one more at its end
  pub at_end : (l : List A) (a b : A) (j : ℕ) → get_elem? (l ++ a ∷ []) j ≡ some b → (get_elem? l j ≡ some b) ⊎ ((j ≡ length l) × (a ≡ b))
  at_end [] a b zero e = inr (refl, some-injective a b e)
  at_end [] a b (suc j) e = absurd (some-ne-none b (sym e))
  at_end (x ∷ xs) a b zero e = inl e
  at_end (x ∷ xs) a b (suc j) e = ⊎_elim (λ h. inl h) (λ h. inr (ap suc h.0, h.1)) (at_end xs a b j e)

  pub one_longer : (before after : List A) (a : A) → after ≡ before ++ a ∷ [] → length after ≡ length before + 1
  one_longer before after a is = ap length is ∙ length-append before (a ∷ [])

  pub beyond_append : (seen more : List A) → beyond seen (seen ++ more) ≡ more
  beyond_append [] more = refl
  beyond_append (x ∷ xs) more = beyond_append xs more

module _ {A : Type 0} (f : A → ℕ) where
  -- the sum once the item v became w
  pub sum_by-set_at : (l : List A) (i : ℕ) (v w : A) → get_elem? l i ≡ some v → sum_by f (set l i w) + f v ≡ sum_by f l + f w
  sum_by-set_at l i v w at = let e = sum_by-set f l i w v (at_within l i v at) in let r : f (get_or l i v) ≡ f v = ap f (at_reads l i v v at) in omega arith

  pub one-le-sum_by : (l : List A) (i : ℕ) (v : A) → get_elem? l i ≡ some v → f v ≤ sum_by f l
  one-le-sum_by [] i v at = absurd (some-ne-none v (sym at))
  one-le-sum_by (x ∷ xs) zero v at = let s = sum_by-cons f x xs in let r : f x ≡ f v = ap f (some-injective x v at) in omega arith
  one-le-sum_by (x ∷ xs) (suc i) v at = let s = sum_by-cons f x xs in let h = one-le-sum_by xs i v at in omega arith

  pub two-le-sum_by : (l : List A) (i j : ℕ) (v w : A) → i ≢ j → get_elem? l i ≡ some v → get_elem? l j ≡ some w → f v + f w ≤ sum_by f l
  two-le-sum_by [] i j v w ne a b = absurd (some-ne-none v (sym a))
  two-le-sum_by (x ∷ xs) zero zero v w ne a b = absurd (ne refl)
  two-le-sum_by (x ∷ xs) zero (suc j) v w ne a b = let s = sum_by-cons f x xs in let r : f x ≡ f v = ap f (some-injective x v a) in let h = one-le-sum_by xs j w b in omega arith
  two-le-sum_by (x ∷ xs) (suc i) zero v w ne a b = let s = sum_by-cons f x xs in let r : f x ≡ f w = ap f (some-injective x w b) in let h = one-le-sum_by xs i v a in omega arith
  two-le-sum_by (x ∷ xs) (suc i) (suc j) v w ne a b = let s = sum_by-cons f x xs in let h = two-le-sum_by xs i j v w (λ e. ne (ap suc e)) a b in omega arith

module _ {E : Type 0} (by : E → ℕ) where
  pub made_by-own : (n : ℕ) (e : E) → by e ≡ n → made_by by n (e ∷ []) ≡ e ∷ []
  made_by-own n e is = rw (eq-eqb (by e) n is) refl

  pub made_by-other : (n m : ℕ) (e : E) → by e ≡ m → n ≢ m → made_by by n (e ∷ []) ≡ []
  made_by-other n m e is ne = rw (ne_eqb (by e) n (λ h. ne (sym h ∙ is))) refl

  -- a number that is past those of all entries has none
  pub made_by-past : (m n : ℕ) (list : List E) → m ≤ n → All (λ (e : E). by e < m) list → made_by by n list ≡ []
  made_by-past m n [] low all = refl
  made_by-past m n (e ∷ es) low all = let head = All-head (λ (x : E). by x < m) e es all in
      rw (ne_eqb (by e) n (λ is. omega arith)) (made_by-past m n es low (All-tail (λ (x : E). by x < m) e es all))

-- one more in a ring
pub ring_more : (n : ℕ) → (n % 18446744073709551616 + 1) % 18446744073709551616 ≡ (n + 1) % 18446744073709551616
ring_more n = omega arith
