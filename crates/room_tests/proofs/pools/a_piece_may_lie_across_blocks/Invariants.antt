use Rattle.std.proofs.Common.{◌≡◌}
use Rattle.room_tests.proofs.pools.a_piece_may_lie_across_blocks.Given as goal

abbrev pub invariant-loop-k : goal.invariant-loop-k
invariant-loop-k g l = l.blocks.count ≡ 245
