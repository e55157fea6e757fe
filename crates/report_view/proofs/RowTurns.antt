-- One more turn of the loops over rows, and names as texts of references.
use Rattle.std.proofs.Common.{◌≡◌, ℕ, ◌+◌, ◌<◌, ◌||◌, cond, not, List, [], ◌∷◌, ◌++◌, Bor, length, take, drop, map, get_or, set, Option, refl, ap, ◌∙◌}
use Rattle.std.specs.Prelude.{position, unwrap_or}
use Rattle.std.specs.List.{list_any, prefix_len, position_or_len}
use Rattle.std.specs.Str.{bytes_eq}
use Rattle.std.proofs.lemmas.List.{get_or_default}
use Rattle.std.proofs.lemmas.List.Edits.{map_over_more}
use Rattle.report_view.proofs.Places.{unwrap_position}

-- one more element is changed in place
pub change_turn : {X : Type 0} (f : X → X) (xs ys : List X) (i : ℕ) (d r : X) → i < length xs → i < length ys → ys ≡ map f (take i xs) ++ drop i xs
    → r ≡ f (get_or ys i d) → set ys i r ≡ map f (take (i + 1) xs) ++ drop (i + 1) xs
change_turn {X = X} f xs ys i d r lt here so_far is =
    let x : X = get_or ys i d in
    ap (λ (y : X). set ys i y) is ∙ map_over_more f xs ys i x lt so_far (get_or_default ys i d x here)

-- whether a name is among the names
pub any_name : (names : List (Bor (List ℕ))) (name : List ℕ)
    → list_any (λ (known : Bor (List ℕ)). bytes_eq known.now name) names ≡ list_any (λ known. bytes_eq known name) (map (λ (known : Bor (List ℕ)). known.now) names)
any_name [] name = refl
any_name (known ∷ names) name = ap (λ b. bytes_eq known.now name || b) (any_name names name)

passed_before : (names : List (Bor (List ℕ))) (name : List ℕ)
    → prefix_len (λ (known : Bor (List ℕ)). not (bytes_eq known.now name)) names ≡ prefix_len (λ known. not (bytes_eq known name)) (map (λ (known : Bor (List ℕ)). known.now) names)
passed_before [] name = refl
passed_before (known ∷ names) name = ap (λ n. cond (not (bytes_eq known.now name)) (1 + n) 0) (passed_before names name)

-- the place of a name among the names
pub place_of_name : (names : List (Bor (List ℕ))) (name : List ℕ) (o : Option ℕ) (n : ℕ) → o ≡ position (λ (known : Bor (List ℕ)). bytes_eq known.now name) names
    → n ≡ unwrap_or o (length names) → n ≡ position_or_len (λ known. bytes_eq known name) (map (λ (known : Bor (List ℕ)). known.now) names)
place_of_name names name o n is unwrapped =
    unwrap_position (λ (known : Bor (List ℕ)). bytes_eq known.now name) names o n is unwrapped ∙ passed_before names name
