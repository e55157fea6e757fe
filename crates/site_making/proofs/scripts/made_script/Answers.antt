use Rattle.std.proofs.Common.{arith}
use Rattle.site_making.specs.Made.{is_board_of, made_items}
use Rattle.site_making.proofs.Turns.{chosen_turn}
use Rattle.site_making.proofs.scripts.made_script.Goals as goal

pub loop-board-preserved : goal.loop-board-preserved
loop-board-preserved c =
    chosen_turn (is_board_of c.args.clients c.args.client) made_items c.loop-board.board c.loop-board.script.items _ (omega arith) c.loop-board.invariant
    c.in_ok-push_items_of.ensures
