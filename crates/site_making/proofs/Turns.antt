-- One more turn of a loop that puts what it makes of each element behind what it has.
use Rattle.std.proofs.Common.{◌≡◌, ℕ, suc, ◌+◌, ◌-◌, ◌<◌, ◌≤◌, Bool, if◌then◌else◌, List, [], ◌∷◌, ◌++◌, length, map, take, get_or, All, refl, sym, ap, ◌∙◌, subst, add-one, arith}
use Rattle.std.specs.Prelude.{filter}
use Rattle.std.specs.List.{flat_map, range_with_len}
use Rattle.std.proofs.Math.Seq.{take-suc}
use Rattle.std.proofs.lemmas.List.{append-nil, map_push}
use Rattle.std.proofs.lemmas.List.Elements.{filter-append}
use Rattle.std.proofs.lemmas.List.FromFn.{map-range_with_len_more}
use Rattle.std.proofs.lemmas.Grind.{flat_map-append}
use Rattle.update_log.proofs.Lists.{by_test}

pub map_turn : {A B : Type 0} (f : A → B) (xs : List A) (i : ℕ) (x : A) (old new : List B) (y : B) → i < length xs → x ≡ get_or xs i x
    → old ≡ map f (take i xs) → new ≡ old ++ y ∷ [] → y ≡ f x → new ≡ map f (take (i + 1) xs)
map_turn f xs i x old new y lt is so_far pushed made =
    let more : map f (take (suc i) xs) ≡ map f (take i xs) ++ f x ∷ [] =
    ap (map f) (take-suc xs i x lt) ∙ map_push f (take i xs) (get_or xs i x) ∙ ap (λ (z : _). map f (take i xs) ++ f z ∷ []) (sym is) in
    rw (add-one, more, pushed, so_far, made) refl

-- the same of what is seen of each
pub seen_turn : {A B C : Type 0} (f : A → C) (g : B → C) (xs : List A) (i : ℕ) (x : A) (old new : List B) (y : B) → i < length xs
    → x ≡ get_or xs i x → map g old ≡ map f (take i xs) → new ≡ old ++ y ∷ [] → g y ≡ f x → map g new ≡ map f (take (i + 1) xs)
seen_turn f g xs i x old new y lt is so_far pushed made =
    map_turn f xs i x (map g old) (map g new) (g y) lt is so_far (ap (map g) pushed ∙ map_push g old y) made

-- what holds of each element holds of the one at a place
pub at_item : {A : Type 0} (P : A → Type 0) (xs : List A) (i : ℕ) (x : A) → All P xs → i < length xs → x ≡ get_or xs i x → P x
at_item P xs i x all lt is = subst P (sym is) (all i x lt)

-- ---- over numbers from 1 on

range_more : (n : ℕ) → range_with_len 1 (n + 1) ≡ range_with_len 1 n ++ (1 + n) ∷ []
range_more n = sym (map_same (range_with_len 1 (n + 1))) ∙ map-range_with_len_more (λ k. k) 1 n (1 + n) refl
    ∙ ap (λ (xs : List ℕ). xs ++ (1 + n) ∷ []) (map_same (range_with_len 1 n))
  where
    map_same : (xs : List ℕ) → map (λ k. k) xs ≡ xs
    map_same [] = refl
    map_same (x ∷ xs) = ap (λ (ys : List ℕ). x ∷ ys) (map_same xs)

-- one more number
range_turn : (n : ℕ) → 1 ≤ n → range_with_len 1 (n + 1 - 1) ≡ range_with_len 1 (n - 1) ++ n ∷ []
range_turn n low =
    ap (range_with_len 1) (let e : n + 1 - 1 ≡ n - 1 + 1 = omega arith in e) ∙ range_more (n - 1)
    ∙ ap (λ (k : ℕ). range_with_len 1 (n - 1) ++ k ∷ []) (let e : 1 + (n - 1) ≡ n = omega arith in e)

pub numbers_turn : {B : Type 0} (f : ℕ → B) (n : ℕ) (old new : List B) (y : B) → 1 ≤ n → old ≡ map f (range_with_len 1 (n - 1))
    → new ≡ old ++ y ∷ [] → y ≡ f n → new ≡ map f (range_with_len 1 (n + 1 - 1))
numbers_turn f n old new y low so_far pushed made =
    let more : map f (range_with_len 1 (n + 1 - 1)) ≡ map f (range_with_len 1 (n - 1)) ++ f n ∷ [] =
    ap (map f) (range_turn n low) ∙ map_push f (range_with_len 1 (n - 1)) n in
    rw (more, pushed, so_far, made) refl

only_that : {B : Type 0} (p : ℕ → Bool) (f : ℕ → List B) (n : ℕ) → flat_map f (filter p (n ∷ [])) ≡ (if p n then f n else [])
only_that p f n = by_test (p n) _ (λ t. rw t (append-nil (f n))) (λ t. rw t refl)

pub chosen_turn : {B : Type 0} (p : ℕ → Bool) (f : ℕ → List B) (n : ℕ) (old new : List B) → 1 ≤ n
    → old ≡ flat_map f (filter p (range_with_len 1 (n - 1))) → new ≡ old ++ (if p n then f n else [])
    → new ≡ flat_map f (filter p (range_with_len 1 (n + 1 - 1)))
chosen_turn p f n old new low so_far pushed =
    let more : flat_map f (filter p (range_with_len 1 (n + 1 - 1))) ≡ flat_map f (filter p (range_with_len 1 (n - 1))) ++ (if p n then f n else []) =
    ap (λ (ks : List ℕ). flat_map f (filter p ks)) (range_turn n low)
    ∙ ap (flat_map f) (filter-append p (range_with_len 1 (n - 1)) (n ∷ []))
    ∙ flat_map-append f (filter p (range_with_len 1 (n - 1))) (filter p (n ∷ []))
    ∙ ap (λ ys. flat_map f (filter p (range_with_len 1 (n - 1))) ++ ys) (only_that p f n) in
    rw (more, pushed, so_far) refl
