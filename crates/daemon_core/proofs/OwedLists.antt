-- Sums and lengths of lists from which elements go.
use Rattle.std.proofs.Common.{◌≡◌, ℕ, Bool, true, false, not, List, [], ◌∷◌, refl, ap, ◌≤◌, ◌+◌, arith, length}
use Rattle.std.specs.Prelude.{Some, None, find, filter, sum_by}
use Rattle.std.proofs.lemmas.List.Sums.{sum_by-cons, sum_by-le-sum_by}
use Rattle.update_log.proofs.Lists.{by_test, filter-short}

-- a filter takes away what is found
pub filter-takes : {X : Type 0} (p : X → Bool) (xs : List X) (x : X) → find p xs ≡ Some x → length (filter (λ y. not (p y)) xs) + 1 ≤ length xs
filter-takes p [] x h = cc
filter-takes p (y ∷ ys) x h =
    by_test (p y) _
    (λ t. let few : length (filter (λ z. not (p z)) ys) ≤ length ys = filter-short (λ z. not (p z)) ys in rw t (omega arith))
    (λ t. let rest : length (filter (λ z. not (p z)) ys) + 1 ≤ length ys = filter-takes p ys x (rw t at h) in rw t (omega arith))

pub filter-yes : {X : Type 0} (p : X → Bool) (x : X) (xs : List X) → p x ≡ true → filter p (x ∷ xs) ≡ x ∷ filter p xs
filter-yes p x xs t = rw t refl

pub filter-no : {X : Type 0} (p : X → Bool) (x : X) (xs : List X) → p x ≡ false → filter p (x ∷ xs) ≡ filter p xs
filter-no p x xs t = rw t refl

pub sum-filter : {X : Type 0} (f : X → ℕ) (p : X → Bool) (xs : List X) → sum_by f (filter p xs) ≤ sum_by f xs
sum-filter f p [] = omega arith
sum-filter f p (x ∷ xs) =
    let rest : sum_by f (filter p xs) ≤ sum_by f xs = sum-filter f p xs in
    by_test (p x) _
    (λ t. let e = ap (sum_by f) (filter-yes p x xs t) in omega (arith, e, sum_by-cons f x (filter p xs), sum_by-cons f x xs))
    (λ t. let e = ap (sum_by f) (filter-no p x xs t) in omega (arith, e, sum_by-cons f x xs))

-- and with it what is counted of it
pub sum-takes : {X : Type 0} (f : X → ℕ) (p : X → Bool) (xs : List X) (x : X) → find p xs ≡ Some x → sum_by f (filter (λ y. not (p y)) xs) + f x ≤ sum_by f xs
sum-takes f p [] x h = cc
sum-takes f p (y ∷ ys) x h =
    by_test (p y) _
    (λ t. let few : sum_by f (filter (λ z. not (p z)) ys) ≤ sum_by f ys = sum-filter f (λ z. not (p z)) ys in
    let h' : Some y ≡ Some x = rw t at h in
    let s : y ≡ x = cc in
    let e : f y ≡ f x = ap f s in
    let n : not (p y) ≡ false = rw t refl in
    let k = ap (sum_by f) (filter-no (λ z. not (p z)) y ys n) in
    omega (arith, k, sum_by-cons f y ys))
    (λ t. let rest : sum_by f (filter (λ z. not (p z)) ys) + f x ≤ sum_by f ys = sum-takes f p ys x (rw t at h) in
    let n : not (p y) ≡ true = rw t refl in
    let k = ap (sum_by f) (filter-yes (λ z. not (p z)) y ys n) in
    omega (arith, k, sum_by-cons f y ys, sum_by-cons f y (filter (λ z. not (p z)) ys)))

-- less, where it is less of one that is found
pub sum-less : {X : Type 0} (f g : X → ℕ) (p : X → Bool) (xs : List X) (x : X) → ((y : X) → f y ≤ g y) → find p xs ≡ Some x → f x + 1 ≤ g x → sum_by f xs + 1 ≤ sum_by g xs
sum-less f g p [] x h e k = cc
sum-less f g p (y ∷ ys) x h e k =
    by_test (p y) _
    (λ t. let e' : Some y ≡ Some x = rw t at e in
    let s : y ≡ x = cc in
    let a : f y ≡ f x = ap f s in
    let b : g y ≡ g x = ap g s in
    omega (arith, sum_by-le-sum_by f g ys h, sum_by-cons f y ys, sum_by-cons g y ys))
    (λ t. let rest : sum_by f ys + 1 ≤ sum_by g ys = sum-less f g p ys x h (rw t at e) k in
    omega (arith, h y, sum_by-cons f y ys, sum_by-cons g y ys))

-- a filter that takes nothing away
pub filter-all : {X : Type 0} (p : X → Bool) (xs : List X) → find p xs ≡ None → filter (λ y. not (p y)) xs ≡ xs
filter-all p [] h = refl
filter-all p (x ∷ xs) h =
    by_test (p x) _
    (λ t. let bad : Some x ≡ None = rw t at h in cc)
    (λ t. let rest : filter (λ y. not (p y)) xs ≡ xs = filter-all p xs (rw t at h) in rw t (ap (λ ys. x ∷ ys) rest))
