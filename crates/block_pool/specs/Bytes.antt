-- Bytes that lie in blocks.
use Rattle.std.specs.Prelude.{◌≡◌, ℕ, ◌+◌, List, [], ◌∷◌, ◌++◌, length, take, drop, All}

-- the bytes with this piece from `at` on, and no other byte changed
abbrev pub overwritten : List ℕ → ℕ → List ℕ → List ℕ
overwritten bytes at piece = take at bytes ++ (piece ++ drop (at + length piece) bytes)

-- each of these has 4,096 bytes
abbrev pub AreBlocks : List (List ℕ) → Type 0
AreBlocks blocks = All (λ block. length block ≡ 4096) blocks

-- the blocks of a chain that is partly wound up: those that were passed, the last first, stand before the rest
abbrev pub unwound : List (List ℕ) → List (List ℕ) → List (List ℕ)
unwound [] rest = rest
unwound (block ∷ passed) rest = unwound passed (block ∷ rest)

-- the bytes of the first block, none where there is no block
abbrev pub first_block : List (List ℕ) → List ℕ
first_block [] = []
first_block (block ∷ rest) = block
