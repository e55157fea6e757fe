use Rattle.std.proofs.Common.{arith}
use Rattle.site_making.specs.Made.{made_board}
use Rattle.site_making.proofs.Turns.{numbers_turn}
use Rattle.site_making.proofs.boards.made_boards.Goals as goal

pub loop-board-preserved : goal.loop-board-preserved
loop-board-preserved c =
    numbers_turn made_board c.loop-board.board c.loop-board.made.items _ _ (omega arith) c.loop-board.invariant c.in_ok-push.ensures.items c.in_ok-made_board.ensures
