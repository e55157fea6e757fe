use Rattle.std.proofs.Common.{arith}
use Rattle.block_pool.proofs.Moving.{AreBlocks-from, AreBlocks-to, length-from, length-to}
use Rattle.block_pool.proofs.stack.Stack.move_first.Goals as goal

pub invariant_of-self : goal.invariant_of-self
invariant_of-self c =
    let from = c.args.self.now in
    let to = c.args.to.now in
    let moved = c.move_first.ensures in
    record {
      whole = AreBlocks-from from.blocks to.blocks _ _ moved from.whole;
      counted = omega (arith, length-from from.blocks to.blocks _ _ moved, from.counted);
    }

pub invariant_of-to : goal.invariant_of-to
invariant_of-to c =
    let from = c.args.self.now in
    let to = c.args.to.now in
    let moved = c.move_first.ensures in
    record {
      whole = AreBlocks-to from.blocks to.blocks _ _ moved from.whole to.whole;
      counted = omega (arith, length-to from.blocks to.blocks _ _ moved (omega (arith, from.counted)), to.counted);
    }
