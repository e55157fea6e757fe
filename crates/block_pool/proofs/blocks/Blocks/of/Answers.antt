use Rattle.std.proofs.Common.{◌≡◌, arith, length, refl}
use Rattle.block_pool.proofs.Written.{length-row}
use Rattle.block_pool.proofs.blocks.Blocks.of.Goals as goal

pub invariant_of-result : goal.invariant_of-result
invariant_of-result c =
    let stack = c.args.stack in
    let none = c.empty.result in
    let counted = stack.counted in
    let empty = none.counted in
    let nothing : length none.blocks ≡ 0 = rw c.empty.ensures refl in
    (omega arith, (length-row none.blocks stack.blocks c.count-count.result none.whole stack.whole (omega arith), tt))
