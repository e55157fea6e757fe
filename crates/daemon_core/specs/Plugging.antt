-- What a client that takes a device out of its port, or puts it back, does to its board.
use Rattle.std.specs.Prelude.{◌≡◌, ℕ, MatchBool, List, Option, Some, slice_get, slice_set, Result, Ok, Err}
use Rattle.device_list.specs.declared.selector.Selector.{Selector}
use Rattle.emulated_boards.specs.Boards.{BoardState, SameRecords}
use Rattle.emulated_boards.specs.Conditions.{view_of}
use Rattle.emulated_boards.specs.declared.condition.Condition.{Condition}
use Rattle.fw_facts.specs.declared.seen.Seen.{Seen}
use Rattle.update_log.specs.declared.answer.PlugAnswer.{PlugAnswer}
use Rattle.core_state.specs.CoreSteps.{board_on}
use Rattle.daemon_core.specs.Housed.{HouseLogView, Place}
use Rattle.daemon_core.specs.Quiet.{moves_none}
use Rattle.daemon_core.specs.declared.stop.Stop.{Stop}

-- The board of a place is at home, and was moved: what it carries and shows is as the move leaves it, and all
-- else as before.
pub record WasMoved (move : Condition → Condition) (old new : Place) (b after : BoardState) : Type 0 where
  pub was : old.board ≡ Some b
  pub is : new.board ≡ Some after
  pub condition : after.condition ≡ move b.condition
  pub same : SameRecords b after
  pub told : new.told ≡ old.told

abbrev pub Moved : (Condition → Condition) → Place → Place → Type 0
Moved move old new = (b : BoardState) × (after : BoardState) × WasMoved move old new b after

-- And this is what it shows then.
abbrev pub MovedShowing : (Condition → Condition) → Place → Place → Seen → Type 0
MovedShowing move old new shown = (b : BoardState) × (after : BoardState) × WasMoved move old new b after × (shown ≡ view_of after.condition)

-- The number of the board whose device a selector finds.
abbrev pub number_found : HouseLogView → Selector → Option ℕ
number_found a device = board_on a.core.boards a.core.views device

-- The board of the device was moved, and all others are as before.
pub record BoardMoved (move : Condition → Condition) (a : HouseLogView) (device : Selector) (old new : List Place) : Type 0 where
  pub number : ℕ
  pub before : Place
  pub after : Place
  pub found : number_found a device ≡ Some number
  pub there : slice_get old number ≡ Some before
  pub moved : Moved move before after
  pub places : new ≡ slice_set old number after

-- Where the answer is that nothing was moved, or there is none, all boards are as before.
abbrev pub MovedAs : (Condition → Condition) → HouseLogView → Selector → Result PlugAnswer Stop → List Place → List Place → Type 0
MovedAs move a device (Ok answer) old new = MatchBool (moves_none answer) (new ≡ old) (BoardMoved move a device old new)
MovedAs move a device (Err stop) old new = new ≡ old
