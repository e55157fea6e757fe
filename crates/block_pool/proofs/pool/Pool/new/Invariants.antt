use Rattle.std.proofs.Common.{◌≡◌}
use Rattle.block_pool.proofs.pool.Pool.new.Given as goal

abbrev pub invariant-made : goal.invariant-made
invariant-made l = l.free.count ≡ l.counter
