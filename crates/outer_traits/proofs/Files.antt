-- Looking a file up in a list of files, seen as names and bytes.
use Rattle.std.proofs.Common.{◌≡◌, ℕ, true, false, cond, List, [], ◌∷◌, map, Option, Some, refl, option_map, sym}
use Rattle.std.specs.Prelude.{find}
use Rattle.std.specs.Str.{bytes_eq}
use Rattle.outer_traits.specs.Shelves.{file_of}

-- It is the same to look at the names first.
pub file_of-map : {X : Type 0} (name_of bytes : X → List ℕ) (xs : List X) (name : List ℕ) → file_of (map (λ x. (name_of x, bytes x)) xs) name ≡ option_map bytes (find (λ x. bytes_eq (name_of x) name) xs)
file_of-map name_of bytes [] name = refl
file_of-map {X} name_of bytes (x ∷ xs) name =
    elim (bytes_eq (name_of x) name) as (λ b. option_map (λ (file : List ℕ × List ℕ). file.1) (cond b (Some (name_of x, bytes x)) (find (λ (file : List ℕ × List ℕ). bytes_eq file.0 name) (map (λ (y : X). (name_of y, bytes y)) xs))) ≡ option_map bytes (cond b (Some x) (find (λ (y : X). bytes_eq (name_of y) name) xs))) [
      | true ↦ refl
      | false ↦ file_of-map name_of bytes xs name
    ]

-- What a look-up among the files found is what the shelf has under the name.
pub found : {X : Type 0} (name_of bytes : X → List ℕ) (xs ys : List X) (seen : List (List ℕ × List ℕ)) (name : List ℕ) (o : Option X) → map (λ x. (name_of x, bytes x)) xs ≡ seen → ys ≡ xs → o ≡ find (λ x. bytes_eq (name_of x) name) ys → option_map bytes o ≡ file_of seen name
found name_of bytes xs ys seen name o s e h = rw (h, e, ← s) (sym (file_of-map name_of bytes xs name))
