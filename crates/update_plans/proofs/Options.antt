-- Options that are known twice.
use Rattle.std.proofs.Common.{◌≡◌, ℕ, ◌^◌, ◌<◌, Option, Some, None, Result, Ok, Err, MatchResult, cond, nat_lt, refl, sym, subst}
use Rattle.std.proofs.lemmas.Bool.{lt-ltb}
use Rattle.std.specs.Option.{IsSomeAnd}

pub not_none : {A : Type 0} {r : Option A} {x : A} → r ≡ Some x → r ≡ None → ⊥
not_none p q = cc

pub same_some : {A : Type 0} {r : Option A} {x y : A} → r ≡ Some x → r ≡ Some y → x ≡ y
same_some p q = cc

-- a number of 32 bits passes the test that it is one
pub fits_some : (n : ℕ) → n < 2 ^ 32 → cond (nat_lt n (2 ^ 32)) (Some n) None ≡ Some n
fits_some n h = rw (lt-ltb n (2 ^ 32) h) refl

-- what a call answers where the answer is known
pub answered : {A E : Type 0} (r : Result A E) (x : A) (P : A → Type 0) (Q : E → Type 0) → MatchResult r P Q → r ≡ Ok x → P x
answered (Ok y) x P Q h e = subst P (same e) h
  where
    same : {A E : Type 0} {y x : A} → ◌≡◌ {A = Result A E} (Ok y) (Ok x) → y ≡ x
    same e = cc
answered (Err y) x P Q h e = cc

pub some_and : {A : Type 0} (r : Option A) (x : A) (P : A → Type 0) → r ≡ Some x → P x → IsSomeAnd r P
some_and {A = A} r x P e h = subst (λ (o : Option A). IsSomeAnd o P) (sym e) h
