use Rattle.std.proofs.Common.{arith, length-take}
use Rattle.block_pool.proofs.Written.{length-concat}
use Rattle.block_pool.proofs.payload.Payload.of.Goals as goal

pub invariant_of-result : goal.invariant_of-result
invariant_of-result c =
    let stack = c.args.stack in
    let long = length-concat stack.blocks stack.whole in
    let counted = stack.counted in
    (omega arith, (rw length-take (omega arith), (c.requires.hashed, tt)))
