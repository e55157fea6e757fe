-- Chains of blocks, seen as the list of the blocks, each the list of its bytes.
use Rattle.std.specs.Prelude.{ℕ, List, [], ◌∷◌}
use Rattle.block_pool.specs.declared.chain.Link.{Link}
use Rattle.block_pool.specs.declared.chain.Link.TheVariants.{End, More}

-- the blocks behind a link, first to last
abbrev pub linked : Link → List (List ℕ)
linked End = []
linked (More block) = block.value.bytes ∷ block.value.rest
