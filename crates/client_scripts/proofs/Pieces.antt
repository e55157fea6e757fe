-- Pieces of text that a loop puts one behind the other.
use Rattle.std.proofs.Common.{◌≡◌, ℕ, ◌+◌, ◌<◌, List, [], ◌∷◌, ◌++◌, length, take, get_or, reverse, sym, ap, ◌∙◌, append_assoc}
use Rattle.std.specs.List.{flat_map}
use Rattle.std.proofs.lemmas.List.{take_more, append-nil, reverse-append}
use Rattle.std.proofs.lemmas.Grind.{flat_map-append}

-- what a loop has put behind a text, at its element i
pub record PutUpTo {X : Type 0} (f : X → List ℕ) (xs : List X) (i : ℕ) (old new : List ℕ) : Type 0 where
  pub text : new ≡ old ++ flat_map f (take i xs)

one_more : {X : Type 0} (f : X → List ℕ) (xs : List X) (i : ℕ) (x : X) → i < length xs → x ≡ get_or xs i x
    → flat_map f (take (i + 1) xs) ≡ flat_map f (take i xs) ++ f x
one_more f xs i x lt is =
    ap (flat_map f) (take_more xs i x lt) ∙ flat_map-append f (take i xs) (get_or xs i x ∷ [])
    ∙ ap (λ (t : List ℕ). flat_map f (take i xs) ++ t) (append-nil (f (get_or xs i x)) ∙ ap f (sym is))

pub put_one : {X : Type 0} (f : X → List ℕ) (xs : List X) (i : ℕ) (x : X) (old new more : List ℕ) → i < length xs → x ≡ get_or xs i x
    → PutUpTo f xs i old new → more ≡ new ++ f x → PutUpTo f xs (i + 1) old more
put_one f xs i x old new more lt is so_far put = record {
  text = put ∙ ap (λ (t : List ℕ). t ++ f x) so_far.text ∙ append_assoc old (flat_map f (take i xs)) (f x)
      ∙ ap (λ (t : List ℕ). old ++ t) (sym (one_more f xs i x lt is));
}

-- one more element, of which the newest stands first
pub newest_first : {X : Type 0} (xs : List X) (i : ℕ) (x : X) → i < length xs → x ≡ get_or xs i x
    → reverse (take (i + 1) xs) ≡ x ∷ reverse (take i xs)
newest_first {X = X} xs i x lt is =
    ap (reverse {A = X}) (take_more xs i x lt) ∙ reverse-append (take i xs) (get_or xs i x ∷ [])
    ∙ ap (λ (y : X). y ∷ reverse (take i xs)) (sym is)
