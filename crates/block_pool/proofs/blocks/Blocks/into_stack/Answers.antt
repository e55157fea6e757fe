use Rattle.std.proofs.Common.{ap, arith}
use Rattle.block_pool.proofs.blocks.Blocks.into_stack.Goals as goal

pub move_first-requires-clause-room : goal.move_first-requires-clause-room
move_first-requires-clause-room c = let counts = ap (λ h. h.count) c.self.view_is in omega (arith, c.self.inside.counted)
