-- Pieces of text that a loop puts one behind the other, also of what references point to.
use Rattle.std.proofs.Common.{◌≡◌, ℕ, ◌+◌, ◌<◌, ◌≤◌, List, [], ◌∷◌, ◌++◌, length, take, get_or, sym, ap, ◌∙◌, append_assoc}
use Rattle.std.specs.List.{flat_map}
use Rattle.std.proofs.lemmas.List.{take_all, take_more, append-nil, get_or_default}
use Rattle.std.proofs.lemmas.Grind.{flat_map-append}

-- what a loop has put behind a text, at its element i
pub record PutUpTo {X : Type 0} (f : X → List ℕ) (xs : List X) (i : ℕ) (old new : List ℕ) : Type 0 where
  pub text : new ≡ old ++ flat_map f (take i xs)

one_more : {X : Type 0} (f : X → List ℕ) (xs : List X) (i : ℕ) (x : X) → i < length xs → x ≡ get_or xs i x
    → flat_map f (take (i + 1) xs) ≡ flat_map f (take i xs) ++ f x
one_more f xs i x lt is =
    ap (flat_map f) (take_more xs i x lt) ∙ flat_map-append f (take i xs) (get_or xs i x ∷ [])
    ∙ ap (λ (t : List ℕ). flat_map f (take i xs) ++ t) (append-nil (f (get_or xs i x)) ∙ ap f (sym is))

pub put_one : {X : Type 0} (f : X → List ℕ) (xs : List X) (i : ℕ) (x : X) (old new more : List ℕ) → i < length xs → x ≡ get_or xs i x
    → PutUpTo f xs i old new → more ≡ new ++ f x → PutUpTo f xs (i + 1) old more
put_one f xs i x old new more lt is so_far put = record {
  text = put ∙ ap (λ (t : List ℕ). t ++ f x) so_far.text ∙ append_assoc old (flat_map f (take i xs)) (f x)
      ∙ ap (λ (t : List ℕ). old ++ t) (sym (one_more f xs i x lt is));
}

pub put_all : {X : Type 0} (f : X → List ℕ) (xs : List X) (i : ℕ) (old new : List ℕ) → length xs ≤ i → PutUpTo f xs i old new
    → new ≡ old ++ flat_map f xs
put_all {X = X} f xs i old new le so_far = so_far.text ∙ ap (λ (t : List X). old ++ flat_map f t) (take_all i xs le)

-- the same, at the element that a loop reads
pub put_at : {X : Type 0} (f : X → List ℕ) (xs : List X) (i : ℕ) (d : X) (old new more : List ℕ) → i < length xs
    → PutUpTo f xs i old new → more ≡ new ++ f (get_or xs i d) → PutUpTo f xs (i + 1) old more
put_at f xs i d old new more lt so_far put = put_one f xs i (get_or xs i d) old new more lt (get_or_default xs i d (get_or xs i d) lt) so_far put
