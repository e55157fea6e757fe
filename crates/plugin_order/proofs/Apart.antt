-- Lists in which no plugin stands twice.
use Rattle.std.proofs.Common.{◌≡◌, ℕ, ◌+◌, ◌≤◌, ◌<◌, ◌==◌, Bool, true, false, inl, inr, Option, Some, None, is_some, List, [], ◌∷◌, ◌++◌, length, cond, count_by, get_or, set, take, drop, reverse, refl, sym, ap, ◌∙◌, subst, arith}
use Rattle.std.proofs.lemmas.Bool.Decides.{eqb_tells}
use Rattle.std.proofs.lemmas.List.{take-append-drop, get_or-set_same, get_or-set_other}
use Rattle.std.proofs.lemmas.List.Sums.{sum_by-append, sum_by_push}
use Rattle.std.proofs.lemmas.List.Sorted.{sum_by-IsPermutation, IsPermutation-reverse}
use Rattle.plugin_order.specs.Chains.{IsApart}
use Rattle.plugin_order.specs.Table.{height_of}

abbrev one_if : Bool → ℕ
one_if b = cond b 1 0

-- the two parts of a list, in the other order
pub IsApart-turned : (xs ys : List ℕ) → IsApart (xs ++ ys) → IsApart (ys ++ xs)
IsApart-turned xs ys apart p =
    let one : count_by (λ q. q == p) (xs ++ ys) ≡ count_by (λ q. q == p) xs + count_by (λ q. q == p) ys = sum_by-append (λ q. cond (q == p) 1 0) xs ys in
    let two : count_by (λ q. q == p) (ys ++ xs) ≡ count_by (λ q. q == p) ys + count_by (λ q. q == p) xs = sum_by-append (λ q. cond (q == p) 1 0) ys xs in
    let few : count_by (λ q. q == p) (xs ++ ys) ≤ 1 = apart p in
    omega (arith, one, two, few)

pub IsApart-reverse : (xs : List ℕ) → IsApart xs → IsApart (reverse xs)
IsApart-reverse xs apart p =
    let same : count_by (λ q. q == p) (reverse xs) ≡ count_by (λ q. q == p) xs =
    sum_by-IsPermutation (λ q. cond (q == p) 1 0) xs (reverse xs) (IsPermutation-reverse xs) in
    let few : count_by (λ q. q == p) xs ≤ 1 = apart p in
    omega (arith, same, few)

pub IsApart-drop : (n : ℕ) (xs : List ℕ) → IsApart xs → IsApart (drop n xs)
IsApart-drop n xs apart p =
    let whole : take n xs ++ drop n xs ≡ xs = take-append-drop n xs in
    let parts : count_by (λ q. q == p) (take n xs ++ drop n xs) ≡ count_by (λ q. q == p) (take n xs) + count_by (λ q. q == p) (drop n xs) =
    sum_by-append (λ q. cond (q == p) 1 0) (take n xs) (drop n xs) in
    let few : count_by (λ q. q == p) (take n xs ++ drop n xs) ≤ 1 = subst (λ (ys : List ℕ). count_by (λ q. q == p) ys ≤ 1) (sym whole) (apart p) in
    omega (arith, parts, few)

-- each plugin of a path is noted among the steps, and stands there once
abbrev pub IsNoted : List (Option ℕ) → List ℕ → Type 0
IsNoted steps path = (p : ℕ) → count_by (λ q. q == p) path ≤ one_if (is_some (height_of steps p))

pub IsNoted-IsApart : (steps : List (Option ℕ)) (path : List ℕ) → IsNoted steps path → IsApart path
IsNoted-IsApart steps path noted p = at_most (is_some (height_of steps p)) (noted p)
  where
    at_most : {n : ℕ} (b : Bool) → n ≤ one_if b → n ≤ 1
    at_most true h = h
    at_most false h = omega (arith, h)

-- one more step, of a plugin that wasn't noted
pub IsNoted-more : (steps : List (Option ℕ)) (path : List ℕ) (at n : ℕ) → at < length steps → height_of steps at ≡ None
    → IsNoted steps path → IsNoted (set steps at (Some n)) (path ++ at ∷ [])
IsNoted-more steps path at n lt new noted p =
    let push : count_by (λ q. q == p) (path ++ at ∷ []) ≡ count_by (λ q. q == p) path + one_if (at == p) =
    sum_by_push (λ q. cond (q == p) 1 0) path at in
    elim (eqb_tells at p) [
      | inl y ↦ (
          let same : get_or (set steps at (Some n)) at None ≡ Some n = get_or-set_same steps at (Some n) None lt in
          let here : height_of (set steps at (Some n)) p ≡ Some n = ap (λ (k : ℕ). get_or (set steps at (Some n)) k None) (sym y.1) ∙ same in
          let none : height_of steps p ≡ None = ap (λ (k : ℕ). get_or steps k None) (sym y.1) ∙ new in
          let old : count_by (λ q. q == p) path ≤ one_if (is_some (height_of steps p)) = noted p in
          let old' : count_by (λ q. q == p) path ≤ 0 = subst (λ (h : Option ℕ). count_by (λ q. q == p) path ≤ one_if (is_some h)) none old in
          let one : one_if (at == p) ≡ 1 = ap one_if y.0 in
          subst (λ (h : Option ℕ). count_by (λ q. q == p) (path ++ at ∷ []) ≤ one_if (is_some h)) (sym here) (omega (arith, push, old', one)))
      | inr w ↦ (
          let other : get_or (set steps at (Some n)) p None ≡ get_or steps p None = get_or-set_other steps at p (Some n) None (λ e. w.1 (sym e)) in
          let none : one_if (at == p) ≡ 0 = ap one_if w.0 in
          let old : count_by (λ q. q == p) path ≤ one_if (is_some (height_of steps p)) = noted p in
          subst (λ (h : Option ℕ). count_by (λ q. q == p) (path ++ at ∷ []) ≤ one_if (is_some h)) (sym other) (omega (arith, push, old, none)))
    ]

pub none_of : (o : Option ℕ) → ((i : ℕ) → o ≡ Some i → ⊥) → o ≡ None
none_of None never = refl
none_of (Some i) never = absurd (never i refl)
