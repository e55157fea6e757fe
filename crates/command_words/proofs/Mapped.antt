-- Tests and places in the words that references point to.
use Rattle.std.proofs.Common.{◌≡◌, ℕ, ◌+◌, ◌-◌, ◌<◌, ◌≤◌, Bool, true, false, ◌||◌, cond, not, nat_lt, List, [], ◌∷◌, ◌++◌, length, map, get_or, take, drop, Option, Some, None, refl, sym, ap, ◌∙◌, arith}
use Rattle.std.proofs.lemmas.List.{take-map, drop_all, length-map}
use Rattle.std.proofs.lemmas.List.Folds.{list_all-map, list_all_at}
use Rattle.std.proofs.Math.Seq.{take-length}
use Rattle.std.specs.List.{drop-map, list_all, list_any, prefix_len, position_or_len}
use Rattle.std.specs.Prelude.{position, unwrap_or}
use Rattle.command_words.specs.Commands.{is_none}
use Rattle.std.proofs.lemmas.List.Sums.{prefix_len-le-length}
use Rattle.std.proofs.lemmas.Bool.Decides.{nat_tests}

pub list_any-map : {X Y : Type 0} (p : Y → Bool) (f : X → Y) (xs : List X) → list_any p (map f xs) ≡ list_any (λ x. p (f x)) xs
list_any-map p f [] = refl
list_any-map p f (x ∷ xs) = ap (λ b. p (f x) || b) (list_any-map p f xs)

prefix_len-map : {X Y : Type 0} (p : Y → Bool) (f : X → Y) (xs : List X) → prefix_len p (map f xs) ≡ prefix_len (λ x. p (f x)) xs
prefix_len-map p f [] = refl
prefix_len-map p f (x ∷ xs) = ap (λ n. cond (p (f x)) (1 + n) 0) (prefix_len-map p f xs)

pub position_or_len-map : {X Y : Type 0} (p : Y → Bool) (f : X → Y) (xs : List X)
    → position_or_len p (map f xs) ≡ position_or_len (λ x. p (f x)) xs
position_or_len-map p f xs = prefix_len-map (λ y. not (p y)) f xs

-- the place of the first that passes, or behind all
pub unwrap_position : {X : Type 0} (p : X → Bool) (xs : List X) → unwrap_or (position p xs) (length xs) ≡ position_or_len p xs
unwrap_position p xs = by_test (position_or_len p xs) (length xs) (nat_lt (position_or_len p xs) (length xs)) refl (prefix_len-le-length (λ x. not (p x)) xs) where
  by_test : (n m : ℕ) (b : Bool) → nat_lt n m ≡ b → n ≤ m → unwrap_or (cond b (Some n) None) m ≡ n
  by_test n m true e h = refl
  by_test n m false e h = grind (arith, nat_tests)

-- the place of the first word that passes, where its place among the references is told
pub place_of : {X Y : Type 0} (p : Y → Bool) (f : X → Y) (xs : List X) (o : Option ℕ) (n : ℕ) → o ≡ position (λ x. p (f x)) xs
    → n ≡ unwrap_or o (length xs) → n ≡ position_or_len p (map f xs)
place_of p f xs o n is unwrapped =
    unwrapped ∙ ap (λ (place : Option ℕ). unwrap_or place (length xs)) is ∙ unwrap_position (λ x. p (f x)) xs ∙ sym (position_or_len-map p f xs)

-- the front and the back up to a place
pub front_of : {X Y : Type 0} (f : X → Y) (xs front : List X) (n m : ℕ) → front ≡ take n xs → n ≡ m → map f front ≡ take m (map f xs)
front_of f xs front n m is at = ap (map f) is ∙ sym (take-map f n xs) ∙ ap (λ k. take k (map f xs)) at

pub back_of : {X Y : Type 0} (f : X → Y) (xs back : List X) (n m : ℕ) → back ≡ drop n xs → n ≡ m → map f back ≡ drop m (map f xs)
back_of f xs back n m is at = ap (map f) is ∙ sym (drop-map f n xs) ∙ ap (λ k. drop k (map f xs)) at

-- nothing stands behind the last
pub back_none : {X Y : Type 0} (f : X → Y) (xs : List X) (n : ℕ) → length xs ≤ n → [] ≡ drop n (map f xs)
back_none f xs n h =
    let same : length (map f xs) ≡ length xs = length-map xs f in
    let all : length (map f xs) ≤ n = omega arith in
    sym (drop_all n (map f xs) all)

-- a list with an element isn't empty
pub some_word : (xs : List (List ℕ)) (ys : List (List ℕ)) → 1 ≤ length xs → false ≡ is_none (xs ++ ys)
some_word [] ys h = absurd (omega arith)
some_word (x ∷ xs) ys h = refl

-- the first word, and the others
pub first_and_rest : {X Y : Type 0} (f : X → Y) (xs : List X) (d : X) → 1 ≤ length xs
    → map f xs ≡ f (get_or xs 0 d) ∷ map f (take (length xs - 1) (drop 1 xs))
first_and_rest f [] d h = absurd (omega arith)
first_and_rest f (x ∷ xs) d h =
    let rest : length (x ∷ xs) - 1 ≡ length xs = omega arith in
    ap (λ back. f x ∷ map f back) (sym (take-length xs) ∙ ap (λ n. take n xs) (sym rest))

-- what all words pass, the one at a place passes
pub passes_at : {X Y : Type 0} (p : Y → Bool) (f : X → Y) (xs : List X) (i : ℕ) (d : X) → i < length xs → list_all p (map f xs) ≡ true
    → p (f (get_or xs i d)) ≡ true
passes_at p f xs i d lt all = by_test (p (f (get_or xs i d))) refl where
  by_test : (b : Bool) → p (f (get_or xs i d)) ≡ b → p (f (get_or xs i d)) ≡ true
  by_test true e = e
  by_test false e =
      let no : list_all (λ x. p (f x)) xs ≡ false = list_all_at (λ x. p (f x)) xs i d lt e in
      let yes : list_all (λ x. p (f x)) xs ≡ true = sym (list_all-map p f xs) ∙ all in
      (cc)
