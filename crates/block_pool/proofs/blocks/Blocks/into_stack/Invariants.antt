use Rattle.std.proofs.Common.{◌≡◌, ◌+◌}
use Rattle.block_pool.specs.Bytes.{unwound}
use Rattle.block_pool.proofs.blocks.Blocks.into_stack.Given as goal

abbrev pub invariant-wind : goal.invariant-wind
invariant-wind l = record {
  left : l.counter + l.from.count ≡ l.initial.from.count;
  all : l.from.count + l.onto.count ≡ l.initial.from.count + l.initial.onto.count;
  same : unwound l.from.blocks l.onto.blocks ≡ unwound l.initial.from.blocks l.initial.onto.blocks;
}
