-- Facts of lists that the induction over a log uses.
use Rattle.std.proofs.Common.{◌≡◌, ◌≢◌, ℕ, zero, suc, ◌<◌, ◌≤◌, Bool, true, false, cond, not, List, [], ◌∷◌, ◌++◌, length, get_or, refl, ap, subst, arith}
use Rattle.std.specs.Prelude.{Option, Some, None, ◌==◌, is_some, find, filter, option_map}
use Rattle.std.specs.List.{AllByRecursion, list_any}
use Rattle.std.proofs.lemmas.Bool.{eqb-true, eq-eqb}
use Rattle.std.proofs.lemmas.List.Sums.{length-filter, count_by-le-length}

-- a choice by a test, with what the test says
pub by_test : (b : Bool) (G : Type 0) → (b ≡ true → G) → (b ≡ false → G) → G
by_test true G f g = f refl
by_test false G f g = g refl

pub find-passes : {X : Type 0} (p : X → Bool) (xs : List X) (x : X) → find p xs ≡ Some x → p x ≡ true
find-passes p [] x e = cc
find-passes p (y ∷ ys) x e =
    by_test (p y) _
    (λ t. let e' : Some y ≡ Some x = rw t at e in cc)
    (λ t. find-passes p ys x (rw t at e))

pub All-find : {X : Type 0} (P : X → Type 0) (p : X → Bool) (xs : List X) (x : X) → AllByRecursion P xs → find p xs ≡ Some x → P x
All-find P p [] x a e = cc
All-find P p (y ∷ ys) x a e =
    by_test (p y) (P x)
    (λ t. let e' : Some y ≡ Some x = rw t at e in let s : y ≡ x = cc in subst P s a.0)
    (λ t. All-find P p ys x a.1 (rw t at e))

pub All-push : {X : Type 0} (P : X → Type 0) (xs : List X) (x : X) → AllByRecursion P xs → P x → AllByRecursion P (xs ++ x ∷ [])
All-push P [] x a h = (h, tt)
All-push P (y ∷ ys) x a h = (a.0, All-push P ys x a.1 h)

-- what is kept passes the test
pub All-filter : {X : Type 0} (P Q : X → Type 0) (p : X → Bool) (xs : List X) → AllByRecursion P xs → ((x : X) → P x → p x ≡ true → Q x) → AllByRecursion Q (filter p xs)
All-filter P Q p [] a h = tt
All-filter P Q p (y ∷ ys) a h =
    let rest : AllByRecursion Q (filter p ys) = All-filter P Q p ys a.1 h in
    by_test (p y) _ (λ t. rw t (h y a.0 t, rest)) (λ t. rw t rest)

pub All-map : {X : Type 0} (P Q : X → Type 0) (xs : List X) → AllByRecursion P xs → ((x : X) → P x → Q x) → AllByRecursion Q xs
All-map P Q [] a h = tt
All-map P Q (y ∷ ys) a h = (h y a.0, All-map P Q ys a.1 h)

-- a look-up that the element at the end doesn't meet
pub find-push_other : {X : Type 0} (p : X → Bool) (xs : List X) (x : X) → p x ≡ false → find p (xs ++ x ∷ []) ≡ find p xs
find-push_other p [] x h = rw h refl
find-push_other p (y ∷ ys) x h = ap (λ o. cond (p y) (Some y) o) (find-push_other p ys x h)

pub find-push_some : {X : Type 0} (p : X → Bool) (xs : List X) (x : X) → p x ≡ true → is_some (find p (xs ++ x ∷ [])) ≡ true
find-push_some p [] x h = rw h refl
find-push_some p (y ∷ ys) x h =
    let rest : is_some (find p (ys ++ x ∷ [])) ≡ true = find-push_some p ys x h in
    by_test (p y) _ (λ t. rw t refl) (λ t. rw t rest)

-- a look-up past elements that a filter takes away, none of which the look-up wants
pub find-filter : {X : Type 0} (p q : X → Bool) (xs : List X) → ((x : X) → p x ≡ true → q x ≡ true) → find p (filter q xs) ≡ find p xs
find-filter p q [] h = refl
find-filter p q (y ∷ ys) h =
    let rest : find p (filter q ys) ≡ find p ys = find-filter p q ys h in
    by_test (p y) _
    (λ t. let k : q y ≡ true = h y t in rw (t, k, t) refl)
    (λ t. by_test (q y) _ (λ k. rw (t, k, t) rest) (λ k. rw (t, k) rest))

-- a look-up of what a filter took away
pub find-filter_none : {X : Type 0} (p : X → Bool) (xs : List X) → find p (filter (λ x. not (p x)) xs) ≡ None
find-filter_none p [] = refl
find-filter_none p (y ∷ ys) =
    let rest : find p (filter (λ x. not (p x)) ys) ≡ None = find-filter_none p ys in
    by_test (p y) _ (λ t. rw t rest) (λ t. rw (t, t) rest)

pub eqb-self : (n : ℕ) → (n == n) ≡ true
eqb-self n = eq-eqb n n refl

pub eqb-other : (m n : ℕ) → m ≢ n → (m == n) ≡ false
eqb-other m n h = by_test (m == n) _ (λ t. absurd (h (eqb-true m n t))) (λ t. t)

pub All-append : {X : Type 0} (P : X → Type 0) (xs ys : List X) → AllByRecursion P xs → AllByRecursion P ys → AllByRecursion P (xs ++ ys)
All-append P [] ys h g = g
All-append P (x ∷ xs) ys h g = (h.0, All-append P xs ys h.1 g)

pub All-both : {X : Type 0} (P Q R : X → Type 0) (xs : List X) → AllByRecursion P xs → AllByRecursion Q xs → ((x : X) → P x → Q x → R x) → AllByRecursion R xs
All-both P Q R [] p q h = tt
All-both P Q R (x ∷ xs) p q h = (h x p.0 q.0, All-both P Q R xs p.1 q.1 h)

-- a look-up that only the element at the end meets
pub find-push_new : {X : Type 0} (p : X → Bool) (xs : List X) (x : X) → find p xs ≡ None → p x ≡ true → find p (xs ++ x ∷ []) ≡ Some x
find-push_new p [] x n t = rw t refl
find-push_new p (y ∷ ys) x n t =
    by_test (p y) _
    (λ u. let bad : Some y ≡ None = rw u at n in cc)
    (λ u. let rest : find p ys ≡ None = rw u at n in rw (u, find-push_new p ys x rest t) refl)

-- an element that passes a test is one of the list
pub any-here : {X : Type 0} (p : X → Bool) (xs : List X) (i : ℕ) (d : X) → i < length xs → p (get_or xs i d) ≡ true → list_any p xs ≡ true
any-here p [] i d lt g = absurd (omega arith)
any-here p (x ∷ xs) zero d lt g = rw g refl
any-here p (x ∷ xs) (suc i) d lt g =
    by_test (p x) _ (λ t. rw t refl) (λ f. rw f (any-here p xs i d (omega arith) g))

-- of nothing nothing is made
pub map-none : {X Y : Type 0} (f : X → Y) (o : Option X) → option_map f o ≡ None → o ≡ None
map-none f None h = refl
map-none f (Some x) h = cc

-- a filter keeps no more than there are
pub filter-short : {X : Type 0} (p : X → Bool) (xs : List X) → length (filter p xs) ≤ length xs
filter-short p xs = rw (length-filter p xs) (count_by-le-length p xs)

pub turned : (a b : ℕ) → (a == b) ≡ false → (b == a) ≡ false
turned a b h = eqb-other b a (λ s. let t : (a == b) ≡ true = rw s (eqb-self a) in cc)
