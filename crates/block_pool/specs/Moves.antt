-- What happens to chains of blocks, each the list of its blocks.
use Rattle.std.specs.Prelude.{◌≡◌, ℕ, List, [], ◌∷◌, length}
use Rattle.block_pool.specs.Bytes.{overwritten}

-- one more block stands in front, and nothing else changed
abbrev pub AddsFirst : List (List ℕ) → List (List ℕ) → Type 0
AddsFirst old [] = ⊥
AddsFirst old (block ∷ rest) = (length block ≡ 4096) × (rest ≡ old)

-- the first block of one chain became the first of another, and nothing else changed
abbrev pub MovesFirst : List (List ℕ) → List (List ℕ) → List (List ℕ) → List (List ℕ) → Type 0
MovesFirst [] to from' to' = (from' ≡ []) × (to' ≡ to)
MovesFirst (block ∷ rest) to from' to' = (from' ≡ rest) × (to' ≡ block ∷ to)

-- the chain with this piece written into its first block from `at` on
abbrev pub first_overwritten : List (List ℕ) → ℕ → List ℕ → List (List ℕ)
first_overwritten [] at piece = []
first_overwritten (block ∷ rest) at piece = overwritten block at piece ∷ rest
