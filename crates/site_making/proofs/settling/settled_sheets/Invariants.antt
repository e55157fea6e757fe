use Rattle.std.proofs.Common.{◌≡◌, map, take}
use Rattle.site_making.specs.Priorities.{priority_of}
use Rattle.site_making.specs.Settled.{settled_sheet}
use Rattle.site_making.proofs.settling.settled_sheets.Given as goal

abbrev pub invariant-loop-board : goal.invariant-loop-board
invariant-loop-board l =
    l.sheets.items ≡ map (λ board. settled_sheet l.quirks (priority_of l.running.names.items l.running.priorities.items) board.sheet) (take l.board-index l.boards)
