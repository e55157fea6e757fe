-- What a board that comes back has to be.
use Rattle.std.specs.Prelude.{◌≡◌, ℕ, List, ◌++◌, length, map, drop, Some, None, unwrap_or, slice_get, slice_set, Result}
use Rattle.fw_facts.specs.declared.seen.Seen.{Seen}
use Rattle.emulated_boards.specs.Boards.{BoardState}
use Rattle.emulated_boards.specs.Conditions.{view_of}
use Rattle.emulated_boards.specs.declared.fault.BoardFault.{BoardFault}
use Rattle.emulated_boards.specs.declared.mark.Mark.{Mark}
use Rattle.update_log.specs.declared.event.Event.{Event}
use Rattle.update_log.specs.declared.event.Op.{Op}
use Rattle.update_log.specs.declared.live.LiveEntry.{LiveEntry}
use Rattle.update_log.specs.Holding.{live_entry}
use Rattle.update_log.specs.Known.{Basis, board_of, rows}
use Rattle.update_log.specs.Legal.{EndAllowed}
use Rattle.update_log.specs.Shows.{told}
use Rattle.daemon_core.specs.Boards.{BoardStands}
use Rattle.daemon_core.specs.Housed.{Place}

-- The number of an entry's board.
abbrev pub number_of : Basis → List Event → ℕ → ℕ
number_of basis past entry = unwrap_or (board_of basis.facts (rows basis past) entry) 0

-- The marks of its journal that weren't told.
abbrev pub new_marks : Basis → List Event → ℕ → List Mark → List Mark
new_marks basis past entry journal = drop (length (told basis past (number_of basis past entry))) journal

-- The place of a number.
abbrev pub place_at : List Place → ℕ → Place
place_at places number = unwrap_or (slice_get places number) (record { board = None; told = 0 })

-- The board at the end of a step: it is the entry's, it has the marks that were told and behind them the
-- step's, and what it tells and shows now is allowed.
pub record StepEnds (basis : Basis) (first : List Seen) (past : List Event) (client entry : ℕ) (op : Op) (outcome : Result (Unit {0}) BoardFault) (number : ℕ) (b : BoardState) : Type 0 where
  pub board : board_of basis.facts (rows basis past) entry ≡ Some number
  pub journal : b.journal ≡ told basis past number ++ new_marks basis past entry b.journal
  pub allowed : EndAllowed basis first past client entry op outcome (new_marks basis past entry b.journal) (view_of b.condition)

-- A live entry of the client that is done: the board is the entry's, and fits the log with this tail of
-- marks that weren't told; and as many blocks come back as it holds.
pub record ComesHome (basis : Basis) (first : List Seen) (past : List Event) (client entry : ℕ) (number : ℕ) (l : LiveEntry) (tail : List Mark) (b : BoardState) (blocks : ℕ) : Type 0 where
  pub live : live_entry past entry ≡ Some l
  pub client_is : l.client ≡ client
  pub board : board_of basis.facts (rows basis past) entry ≡ Some number
  pub stands : BoardStands basis first past number b tail
  pub blocks_are : blocks ≡ l.blocks

-- The places with a board that came home.
abbrev pub places_with : List Place → ℕ → BoardState → List Place
places_with places number b = slice_set places number (record (place_at places number) { board = Some b })

-- Each place has the board that it had.
abbrev pub SameBoards : List Place → List Place → Type 0
SameBoards old new = map (λ place. place.board) new ≡ map (λ place. place.board) old
