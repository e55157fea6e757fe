use Rattle.std.proofs.Common.{◌∙◌}
use Rattle.block_pool.proofs.Same.{same_block_bytes}
use Rattle.block_pool.proofs.blocks.Blocks.seal.Goals as goal

pub returns-else-eq-clause-handed_back : goal.returns-else-eq-clause-handed_back
returns-else-eq-clause-handed_back c =
    let stack = c.into_stack-stack.ensures in
    let back = c.of-else-eq.ensures in
    same_block_bytes _ _ (back.count ∙ stack.count) (back.bytes ∙ stack.bytes)
