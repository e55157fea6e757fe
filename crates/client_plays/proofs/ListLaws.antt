-- Lists that are gone through.
use Rattle.std.proofs.Common.{◌≡◌, ℕ, ◌<◌, ◌+◌, List, ◌∷◌, [], ◌++◌, length, take, drop, get_or, ap, sym, ◌∙◌, suc}
use Rattle.std.proofs.Math.Seq.{drop-cons}
use Rattle.std.proofs.lemmas.List.{take-append-drop, take_more}

pub taken-more : {X : Type 0} (xs : List X) (i : ℕ) (d : X) → i < length xs → take i xs ++ get_or xs i d ∷ [] ≡ take (i + 1) xs
taken-more xs i d h = sym (take_more xs i d h)

pub taken-here : {X : Type 0} (xs : List X) (i : ℕ) (d : X) → i < length xs → take i xs ++ get_or xs i d ∷ drop (suc i) xs ≡ xs
taken-here xs i d h = ap (λ (ys : List _). take i xs ++ ys) (sym (drop-cons xs i d h)) ∙ take-append-drop i xs

-- The same, with what stands at the place.
pub taken-more_is : {X : Type 0} (xs : List X) (i : ℕ) (x : X) → x ≡ get_or xs i x → i < length xs → take i xs ++ x ∷ [] ≡ take (i + 1) xs
taken-more_is xs i x e h = ap (λ (y : _). take i xs ++ y ∷ []) e ∙ taken-more xs i x h

pub taken-here_is : {X : Type 0} (xs : List X) (i : ℕ) (x : X) → x ≡ get_or xs i x → i < length xs → take i xs ++ x ∷ drop (suc i) xs ≡ xs
taken-here_is xs i x e h = ap (λ (y : _). take i xs ++ y ∷ drop (suc i) xs) e ∙ taken-here xs i x h
