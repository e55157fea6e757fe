-- What is left of a house.
use Rattle.std.specs.Prelude.{◌≡◌, ℕ, IsSome, List, [], ◌∷◌, length, Option, Some, None, slice_get}
use Rattle.emulated_boards.specs.Boards.{BoardState}
use Rattle.emulated_boards.specs.declared.mark.Mark.{Mark}
use Rattle.daemon_core.specs.Boards.{BoardStands}
use Rattle.daemon_core.specs.Housed.{basis_in, Housed, Place, past}

-- All boards are at home.
abbrev pub AllHome : List Place → Type 0
AllHome [] = Unit {0}
AllHome (place ∷ places) = IsSome place.board × AllHome places

-- The boards at home, in the order of their places.
abbrev pub boards_with : Option BoardState → List BoardState → List BoardState
boards_with None boards = boards
boards_with (Some board) boards = board ∷ boards

abbrev pub boards_in : List Place → List BoardState
boards_in [] = []
boards_in (place ∷ places) = boards_with place.board (boards_in places)

-- The board is that of this place, and stands to the log with some marks that weren't told.
pub record IsBoardOf {K : Type 0} (h : Housed K) (number : ℕ) (board : BoardState) : Type 0 where
  pub place : Place
  pub place_is : slice_get h.places number ≡ Some place
  pub board_is : place.board ≡ Some board
  pub tail : List Mark
  pub stands : BoardStands (basis_in h.house_log) h.house_log.first (past h) number board tail

-- Each of these boards is that of its place, and stands to the log of the house; there is one for each
-- sheet.
pub record BoardsOf {K : Type 0} (h : Housed K) (boards : List BoardState) : Type 0 where
  pub count : length boards ≡ length h.house_log.facts.sheets
  pub each : (number : ℕ) (board : BoardState) → slice_get boards number ≡ Some board → IsBoardOf h number board
