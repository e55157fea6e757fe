use Rattle.std.proofs.Common.{◌≡◌, take, false}
use Rattle.std.specs.List.{list_any}
use Rattle.update_log.specs.Boards.{all_boards, is_beaten}
use Rattle.core_state.specs.CoreBoards.{board}
use Rattle.core_state.proofs.arranging.is_beaten.Given as goal

abbrev pub invariant-loop-other : goal.invariant-loop-other
invariant-loop-other l = list_any (is_beaten l.facts (board l.number l.sheet)) (take l.other (all_boards l.facts)) ≡ false
