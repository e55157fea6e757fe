-- Lists with commas, word by word.
use Rattle.std.specs.Prelude.{ℕ, Bool, true, false, if◌then◌else◌, List, [], ◌∷◌, ◌++◌, codes, flat_map}

-- The comma before a word, where the list has begun.
abbrev pub comma_if : Bool → List ℕ
comma_if begun = if begun then codes "," else []

-- What stands at the end of a list that has no word.
abbrev pub end_text : Bool → List ℕ
end_text begun = if begun then [] else codes "-"

-- The list has begun.
abbrev pub has_begun : List (List ℕ) → Bool
has_begun [] = false
has_begun (word ∷ words) = true

-- The words of a list, as far as it has come.
abbrev pub so_far : List (List ℕ) → List ℕ
so_far [] = []
so_far (word ∷ words) = word ++ flat_map (λ next. codes "," ++ next) words
