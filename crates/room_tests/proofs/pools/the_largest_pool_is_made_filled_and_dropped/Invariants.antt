use Rattle.std.proofs.Common.{◌≡◌}
use Rattle.room_tests.proofs.pools.the_largest_pool_is_made_filled_and_dropped.Given as goal

abbrev pub invariant-loop-k : goal.invariant-loop-k
invariant-loop-k l = l.blocks.count ≡ 16384
