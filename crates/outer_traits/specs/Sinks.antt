-- What a sink has taken, where it tells it.
use Rattle.std.specs.Prelude.{◌≡◌, ℕ, List, ◌++◌, Option, option_map}

-- The sink took these bytes, behind those that it had.
abbrev pub Took : List ℕ → Option (List ℕ) → Option (List ℕ) → Type 0
Took bytes old new = new ≡ option_map (λ before. before ++ bytes) old

-- The sink took a front of these bytes and no more.
pub record TookFront (bytes : List ℕ) (old new : Option (List ℕ)) : Type 0 where
  pub front : List ℕ
  pub rest : List ℕ
  pub parts : bytes ≡ front ++ rest
  pub took : Took front old new
