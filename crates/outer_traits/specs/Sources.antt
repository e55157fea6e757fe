-- What a source has left, where it tells it.
use Rattle.std.specs.Prelude.{◌≡◌, ℕ, ◌<◌, List, [], ◌++◌, length, Option, option_map, IfSome}

-- These bytes came: they stood at the front of what was left.
abbrev pub Came : List ℕ → Option (List ℕ) → Option (List ℕ) → Type 0
Came bytes old new = old ≡ option_map (λ rest. bytes ++ rest) new

-- The input is at its end.
abbrev pub AtEnd : Option (List ℕ) → Type 0
AtEnd left = IfSome left (λ rest. rest ≡ [])

-- Some bytes came.
pub record SomeCame (old new : Option (List ℕ)) : Type 0 where
  pub bytes : List ℕ
  pub came : Came bytes old new

-- More bytes came than this many.
pub record MoreCame (limit : ℕ) (old new : Option (List ℕ)) : Type 0 where
  pub bytes : List ℕ
  pub more : limit < length bytes
  pub came : Came bytes old new
