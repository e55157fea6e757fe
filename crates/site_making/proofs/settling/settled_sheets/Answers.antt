use Rattle.std.proofs.Common.{◌<◌, ◌≤◌, length, arith}
use Rattle.site_making.specs.Priorities.{priority_of}
use Rattle.site_making.specs.Settled.{settled_sheet}
use Rattle.site_making.proofs.Turns.{at_item, map_turn}
use Rattle.site_making.proofs.settling.settled_sheets.Goals as goal

pub settled_sheet-requires : goal.settled_sheet-requires
settled_sheet-requires c =
    let lt : c.loop-board.board-index < length c.args.boards.now = omega arith in
    at_item (λ board. board.sheet.priority ≤ 1000) c.args.boards.now c.loop-board.board-index c.board-item.result c.requires.priorities lt c.board-item.is

pub loop-board-preserved : goal.loop-board-preserved
loop-board-preserved c =
    let lt : c.loop-board.board-index < length c.args.boards.now = omega arith in
    map_turn (λ board. settled_sheet c.args.quirks.now (priority_of c.args.running.now.names.items c.args.running.now.priorities.items) board.sheet)
    c.args.boards.now c.loop-board.board-index c.board-item.result c.loop-board.sheets.items _ _ lt c.board-item.is c.loop-board.invariant
    c.in_ok-push.ensures.items c.in_ok-settled_sheet.ensures
