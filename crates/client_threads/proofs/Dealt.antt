-- Lists whose last elements are taken one by one, and put on another list.
use Rattle.std.proofs.Common.{◌≡◌, List, [], ◌∷◌, ◌++◌, map, reverse, ap, sym, ◌∙◌}
use Rattle.std.proofs.lemmas.List.{reverse-append, reverse-reverse}

-- All were taken, and the first is held apart.
pub dealt-all : {A B : Type 0} (f : A → B) (all now : List B) (b : B) (xs : List A) → reverse all ≡ now ++ b ∷ [] → now ≡ reverse (map f xs) → all ≡ b ∷ map f xs
dealt-all f all now b xs e o =
    sym (reverse-reverse all)
    ∙ ap reverse (e ∙ ap (λ (l : List _). l ++ b ∷ []) o)
    ∙ reverse-append (reverse (map f xs)) (b ∷ [])
    ∙ ap (λ (l : List _). b ∷ l) (reverse-reverse (map f xs))

pub dealt-front : {A B : Type 0} (f : A → B) (all left : List B) (xs : List A) → reverse all ≡ left ++ reverse (map f xs) → all ≡ map f xs ++ reverse left
dealt-front f all left xs e =
    sym (reverse-reverse all)
    ∙ ap reverse e
    ∙ reverse-append left (reverse (map f xs))
    ∙ ap (λ (l : List _). l ++ reverse left) (reverse-reverse (map f xs))
