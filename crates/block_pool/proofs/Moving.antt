-- What a move of a block keeps.
use Rattle.std.proofs.Common.{◌≡◌, ℕ, ◌+◌, ◌-◌, ◌<◌, List, [], ◌∷◌, length, ap, ◌∙◌, arith}
use Rattle.std.proofs.lemmas.List.Elements.{All-cons, All-head, All-tail, All-same}
use Rattle.block_pool.specs.Bytes.{AreBlocks}
use Rattle.block_pool.specs.Moves.{MovesFirst}

-- this is a block
abbrev pub IsBlock : List ℕ → Type 0
IsBlock block = length block ≡ 4096

-- both chains still have blocks of 4,096 bytes alone
pub AreBlocks-from : (from to from' to' : List (List ℕ)) → MovesFirst from to from' to' → AreBlocks from → AreBlocks from'
AreBlocks-from [] to from' to' m f = All-same IsBlock from' [] m.0 f
AreBlocks-from (b ∷ rest) to from' to' m f = All-same IsBlock from' rest m.0 (All-tail IsBlock b rest f)

pub AreBlocks-to : (from to from' to' : List (List ℕ)) → MovesFirst from to from' to' → AreBlocks from → AreBlocks to → AreBlocks to'
AreBlocks-to [] to from' to' m f t = All-same IsBlock to' to m.1 t
AreBlocks-to (b ∷ rest) to from' to' m f t =
    All-same IsBlock to' (b ∷ to) m.1 (All-cons IsBlock b to (All-head IsBlock b rest f) t)

-- how long both are
pub length-from : (from to from' to' : List (List ℕ)) → MovesFirst from to from' to' → length from' ≡ length from - 1
length-from [] to from' to' m = ap length m.0
length-from (b ∷ rest) to from' to' m = ap length m.0 ∙ omega arith

pub length-to : (from to from' to' : List (List ℕ)) → MovesFirst from to from' to' → 0 < length from → length to' ≡ length to + 1
length-to [] to from' to' m h = absurd (omega arith)
length-to (b ∷ rest) to from' to' m h = ap length m.1 ∙ omega arith
