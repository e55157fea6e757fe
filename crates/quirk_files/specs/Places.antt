-- Where the quirks of each group stand. No clause of a public call speaks of it.
use Rattle.std.specs.Prelude.{◌≡◌, ℕ, ◌<◌, true, false, if◌then◌else◌, nat_lt, max, List, [], ◌∷◌, length, get_or, Option, Some, None}
use Rattle.std.specs.Str.{bytes_eq}

-- The last place below n at which the group stands, if it stands there at all.
abbrev pub LastBelow : List (List ℕ) → List ℕ → ℕ → Option ℕ → Type 0
LastBelow groups group n None = (k : ℕ) → k < n → bytes_eq (get_or groups k []) group ≡ false
LastBelow groups group n (Some at) =
    (at < n) × ((bytes_eq (get_or groups at []) group ≡ true) × ((k : ℕ) → at < k → k < n → bytes_eq (get_or groups k []) group ≡ false))

-- For each group, its last place, and for each place, the place before it of the same group.
pub record IsIndexed (groups : List (List ℕ)) (last : List ℕ → Option ℕ) (before : List (Option ℕ)) : Type 0 where
  pub long : length before ≡ length groups
  pub last_is : (group : List ℕ) → LastBelow groups group (length groups) (last group)
  pub before_is : (k : ℕ) → k < length groups → LastBelow groups (get_or groups k []) k (get_or before k None)

-- The heads are the last places of the groups below n.
abbrev pub HeadsAre : List (List ℕ) → ℕ → List (List ℕ) → List (Option ℕ) → Type 0
HeadsAre groups n [] [] = Unit {0}
HeadsAre groups n [] (head ∷ heads) = ⊥
HeadsAre groups n (group ∷ more) [] = ⊥
HeadsAre groups n (group ∷ more) (head ∷ heads) = LastBelow groups group n head × HeadsAre groups n more heads

-- The later of two places, where there are any.
abbrev pub later : Option ℕ → Option ℕ → Option ℕ
later None other = other
later (Some one) None = Some one
later (Some one) (Some other) = Some (max one other)

-- The last of the places.
abbrev pub latest : List (Option ℕ) → Option ℕ
latest [] = None
latest (head ∷ heads) = later head (latest heads)

-- The head, or where it is not below the place, the one before.
abbrev pub moved : ℕ → Option ℕ → Option ℕ → Option ℕ
moved place before None = None
moved place before (Some head) = if nat_lt head place then Some head else before
