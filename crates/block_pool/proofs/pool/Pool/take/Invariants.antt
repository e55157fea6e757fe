use Rattle.std.proofs.Common.{◌≡◌, ◌+◌}
use Rattle.block_pool.proofs.pool.Pool.take.Given as goal

abbrev pub invariant-moved : goal.invariant-moved
invariant-moved l = record {
  out : l.out.count ≡ l.counter;
  left : l.self-inside.free.count + l.counter ≡ l.fn.self.free;
  capacity : l.self-inside.capacity ≡ l.fn.self.capacity;
}
