use Rattle.std.proofs.Common.{◌≡◌, take}
use Rattle.update_log.specs.Known.{for_board}
use Rattle.core_state.specs.CoreViews.{told_on}
use Rattle.core_state.proofs.showing.show_board.Given as goal

abbrev pub invariant-loop-at : goal.invariant-loop-at
invariant-loop-at l = l.devices ≡ told_on (λ number. for_board l.board number l.seen) (take l.at l.boards) l.initial.devices
