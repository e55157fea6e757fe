use Rattle.std.proofs.Common.{◌≡◌, ◌+◌, ◌*◌, ◌≤◌, length}
use Rattle.block_pool.specs.Bytes.{overwritten}
use Rattle.block_pool.proofs.blocks.Blocks.fill.Given as goal

abbrev pub invariant-pieces : goal.invariant-pieces
invariant-pieces l = record {
  count : l.self.count ≡ l.fn.self.count;
  fits : l.at + length l.left ≤ 4096 * l.self.count;
  goes_on : overwritten l.self.bytes l.at l.left ≡ overwritten l.fn.self.bytes l.fn.at l.fn.piece;
}

abbrev pub decreases-pieces : goal.decreases-pieces
decreases-pieces l = length l.left
