use Rattle.std.proofs.Common.{◌≡◌, map, take}
use Rattle.site_making.specs.Settled.{new_board, start_of}
use Rattle.site_making.proofs.settling.new_boards.Given as goal

abbrev pub invariant-loop-board : goal.invariant-loop-board
invariant-loop-board l = map start_of l.made.items ≡ map new_board (take l.board-index l.boards)
