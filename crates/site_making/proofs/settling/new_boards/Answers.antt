use Rattle.std.proofs.Common.{◌<◌, length, arith}
use Rattle.emulated_boards.specs.Plans.{IsPlan}
use Rattle.site_making.specs.Settled.{new_board, start_of}
use Rattle.site_making.proofs.Turns.{at_item, seen_turn}
use Rattle.site_making.proofs.settling.new_boards.Goals as goal

pub new_board-requires : goal.new_board-requires
new_board-requires c =
    let lt : c.loop-board.board-index < length c.args.boards.now = omega arith in
    at_item (λ board. IsPlan board.faults) c.args.boards.now c.loop-board.board-index c.board-item.result c.requires.plans lt c.board-item.is

pub loop-board-preserved : goal.loop-board-preserved
loop-board-preserved c =
    let lt : c.loop-board.board-index < length c.args.boards.now = omega arith in
    seen_turn new_board start_of c.args.boards.now c.loop-board.board-index c.board-item.result c.loop-board.made.items _ _ lt c.board-item.is
    c.loop-board.invariant c.in_ok-push.ensures.items c.in_ok-new_board.ensures
