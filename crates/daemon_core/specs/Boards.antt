-- How the boards at home stand to the log.
use Rattle.std.specs.Prelude.{◌≡◌, ◌≤◌, ℕ, Bool, false, ◌+◌, IsTrue, List, [], ◌∷◌, length, Option, Some, None, Err, if◌then◌else◌, unwrap_or}
use Rattle.std.specs.List.{list_any}
use Rattle.fw_facts.specs.declared.seen.Seen.{Seen}
use Rattle.emulated_boards.specs.Boards.{BoardState}
use Rattle.emulated_boards.specs.Conditions.{booted, plugged, view_of}
use Rattle.emulated_boards.specs.declared.image.Image.{Image}
use Rattle.emulated_boards.specs.declared.mark.Mark.{Mark}
use Rattle.history_keeper.specs.declared.row.Row.{Row}
use Rattle.update_log.specs.declared.event.Event.{Event}
use Rattle.update_log.specs.declared.facts.Facts.{Facts}
use Rattle.update_log.specs.Holding.{live}
use Rattle.update_log.specs.Known.{Basis, is_board_of, rows}
use Rattle.update_log.specs.Legal.{open_on}
use Rattle.update_log.specs.Once as once
use Rattle.update_log.specs.Shows.{FreshShows, IsWritten, told}
use Rattle.daemon_core.specs.Housed.{Place}

-- What the laws see of a board.
abbrev pub journal_and_view : BoardState → once.JournalAndView
journal_and_view b = record { journal = b.journal; view = view_of b.condition }

-- A board is out while an entry is live on it.
abbrev pub is_out : Basis → List Event → ℕ → Bool
is_out basis past number = list_any (λ l. is_board_of basis.facts (rows basis past) l.entry number) (live past)

-- The event is the end of a step of this board that met a fault.
abbrev pub is_faulty_end : Facts → List Row → ℕ → Event → Bool
is_faulty_end facts rows number (Event.End client entry op (Err fault) told seen) = is_board_of facts rows entry number
is_faulty_end facts rows number _ = false

-- How many there are.
abbrev pub faulty_ends : Basis → List Event → ℕ → ℕ
faulty_ends basis [] number = 0
faulty_ends basis (event ∷ past) number =
    if is_faulty_end basis.facts (rows basis past) number event
    then faulty_ends basis past number + 1
    else faulty_ends basis past number

-- A board at home: it fits the log, with a tail of marks that weren't told; as it would start, or be put
-- into its port, it would show what it may; an image that is staged is that of a payload whose whole write
-- is in its journal; and it met at least as many faults as the log tells.
pub record BoardStands (basis : Basis) (first : List Seen) (past : List Event) (number : ℕ) (b : BoardState) (tail : List Mark) : Type 0 where
  pub fits : once.BoardFits basis first past number (journal_and_view b) tail
  pub boots : (absent : Bool) → FreshShows basis first past number tail (view_of (booted absent b.condition))
  pub plugs : open_on basis past number ≡ None → FreshShows basis first past number [] (view_of (plugged b.condition))
  pub staged : (image : Image) → b.condition.staged ≡ Some image → IsWritten past b.journal (unwrap_or image.raw 0)
  pub faults : faulty_ends basis past number ≤ b.faults

-- The board of a place is there exactly where no entry is live on it, and then it stands so.
abbrev pub BoardIsHome : Basis → List Seen → List Event → ℕ → Option BoardState → Type 0
BoardIsHome basis first past number None = IsTrue (is_out basis past number)
BoardIsHome basis first past number (Some b) =
    (is_out basis past number ≡ false) × ((tail : List Mark) × BoardStands basis first past number b tail)

-- A place tells how many marks of its board were told, and its board is at home or out.
pub record PlaceStands (basis : Basis) (first : List Seen) (past : List Event) (number : ℕ) (place : Place) : Type 0 where
  pub told : place.told ≡ length (told basis past number)
  pub home : BoardIsHome basis first past number place.board
