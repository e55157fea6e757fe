-- What is left of a list begins with its next item.
use Rattle.std.proofs.Common.{◌≡◌, ℕ, suc, ◌+◌, ◌<◌, List, ◌∷◌, length, drop, get_or, add-one, drop-cons, sym, ap, ◌∙◌}

pub drop_at : {A : Type 0} (xs : List A) (i : ℕ) (v : A) → i < length xs → v ≡ get_or xs i v → drop i xs ≡ v ∷ drop (i + 1) xs
drop_at {A = A} xs i v lt is = rw add-one (drop-cons xs i v lt ∙ ap (λ (x : A). x ∷ drop (suc i) xs) (sym is))
