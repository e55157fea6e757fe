-- The faults that are planned for the boards of a house.
use Rattle.std.specs.Prelude.{◌≡◌, ℕ, List, [], map, Option, Some, None, slice_get}
use Rattle.emulated_boards.specs.Boards.{BoardState}
use Rattle.emulated_boards.specs.declared.fault.PlannedFault.{PlannedFault}
use Rattle.daemon_core.specs.Housed.{Place}
use Rattle.daemon_core.specs.Returns.{place_at}

-- The faults that are planned for this board are those of its number.
abbrev pub HasPlan : List (List PlannedFault) → ℕ → BoardState → Type 0
HasPlan plans number board = slice_get plans number ≡ Some board.plan

-- So they are for each board at home.
abbrev pub HavePlans : List (List PlannedFault) → List Place → Type 0
HavePlans plans places = (number : ℕ) (board : BoardState) → (place_at places number).board ≡ Some board → HasPlan plans number board

-- Whatever faults were planned for the boards at home, by their numbers, they are planned still for those
-- that are at home now.
abbrev pub KeepsPlans : List Place → List Place → Type 0
KeepsPlans old new = (plans : List (List PlannedFault)) → HavePlans plans old → HavePlans plans new

-- The faults that are planned for the boards at home, and none for one that is out.
abbrev pub plan_of : Option BoardState → List PlannedFault
plan_of None = []
plan_of (Some board) = board.plan

abbrev pub plans_in : List Place → List (List PlannedFault)
plans_in places = map (λ place. plan_of place.board) places
