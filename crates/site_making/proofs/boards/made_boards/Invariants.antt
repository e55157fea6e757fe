use Rattle.std.proofs.Common.{◌≡◌, ◌-◌, map}
use Rattle.std.specs.List.{range_with_len}
use Rattle.site_making.specs.Made.{made_board}
use Rattle.site_making.proofs.boards.made_boards.Given as goal

abbrev pub invariant-loop-board : goal.invariant-loop-board
invariant-loop-board l = l.made.items ≡ map made_board (range_with_len 1 (l.board - 1))
