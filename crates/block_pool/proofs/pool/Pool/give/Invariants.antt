use Rattle.std.proofs.Common.{◌≡◌, ◌+◌}
use Rattle.block_pool.proofs.pool.Pool.give.Given as goal

abbrev pub invariant-moved : goal.invariant-moved
invariant-moved l = record {
  left : l.back.count + l.counter ≡ l.initial.back.count;
  free : l.self-inside.free.count ≡ l.fn.self.free + l.counter;
  capacity : l.self-inside.capacity ≡ l.fn.self.capacity;
}
