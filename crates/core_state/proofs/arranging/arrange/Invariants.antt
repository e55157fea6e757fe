use Rattle.std.proofs.Common.{◌≡◌, take, map}
use Rattle.std.specs.Prelude.{filter}
use Rattle.update_log.specs.Boards.{all_boards, is_device}
use Rattle.core_state.specs.CoreBoards.{first_view}
use Rattle.core_state.proofs.arranging.arrange.Given as goal

abbrev pub invariant-loop-number : goal.invariant-loop-number
invariant-loop-number l = record {
  devices : l.devices ≡ map first_view (filter (is_device l.facts) (take l.number (all_boards l.facts)));
  boards : l.boards.items ≡ map (λ b. b.number) (filter (is_device l.facts) (take l.number (all_boards l.facts)));
}
