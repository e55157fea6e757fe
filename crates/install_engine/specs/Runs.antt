-- A claim between its steps, and within one.
use Rattle.std.specs.Prelude.{◌≡◌, ◌≤◌, ◌==◌, ℕ, false, List, [], ◌++◌, Option, Some, option_map, unwrap_or, Result, ⊤}
use Rattle.std.specs.List.{AllByRecursion, list_any}
use Rattle.fw_facts.specs.declared.seen.Seen.{Seen}
use Rattle.emulated_boards.specs.Boards.{BoardState}
use Rattle.emulated_boards.specs.Conditions.{view_of}
use Rattle.emulated_boards.specs.declared.fault.BoardFault.{BoardFault}
use Rattle.emulated_boards.specs.declared.image.Image.{Image}
use Rattle.emulated_boards.specs.declared.mark.Mark.{Mark}
use Rattle.plugin_trait.specs.Steps.{Attached, Detached, Plain, Written}
use Rattle.history_keeper.specs.declared.row.Row.{Row}
use Rattle.update_log.specs.declared.event.Event.{Event}
use Rattle.update_log.specs.declared.event.Op.{Op}
use Rattle.update_log.specs.declared.facts.Facts.{Facts}
use Rattle.update_log.specs.declared.live.LiveEntry.{LiveEntry}
use Rattle.update_log.specs.declared.live.OpenStep.{OpenStep}
use Rattle.update_log.specs.Holding.{live_entry, open_steps, step_open}
use Rattle.update_log.specs.Known.{Basis, board_of, is_board_of, rows, seen}
use Rattle.update_log.specs.Legal.{open_on}
use Rattle.update_log.specs.Once.{ShowsFirst}
use Rattle.update_log.specs.Pasts.{off}
use Rattle.update_log.specs.Shows.{IsWritten, RawAllowed, digest_of, first_of_board, is_began, raw_of, told}
use Rattle.update_log.specs.Steps.{trace}
use Rattle.daemon_core.specs.Boards.{faulty_ends}
use Rattle.daemon_core.specs.declared.claimed.Taken.{Taken}
use Rattle.daemon_core.specs.Fetches.{raw_number}
use Rattle.device_claims.specs.declared.claim.Parts.{Parts}

-- ---- the board

-- The raw version of an image, which is 0 for one that is no good.
abbrev pub number_of_image : Image → ℕ
number_of_image image = unwrap_or image.raw 0

-- A board that is out stands to the log, with a tail of marks that weren't told: its journal is what was
-- told of it and the tail; where no write of it began, it shows the raw version of its first image; the raw
-- version of its image is one that it may show; an image that is staged is that of a payload whose whole
-- write is in its journal; and it met at least as many faults as the log tells.
pub record StandsOut (basis : Basis) (first : List Seen) (past : List Event) (number : ℕ) (b : BoardState) (tail : List Mark) : Type 0 where
  pub journal : b.journal ≡ told basis past number ++ tail
  pub unwritten : list_any is_began b.journal ≡ false → ShowsFirst (view_of b.condition) (first_of_board first number)
  pub image : RawAllowed basis first past number tail (number_of_image b.condition.image)
  pub staged : (image : Image) → b.condition.staged ≡ Some image → IsWritten past b.journal (number_of_image image)
  pub faults : faulty_ends basis past number ≤ b.faults

-- ---- the claim

-- The step of an entry that is open, where one is.
abbrev pub open_step : ℕ → ℕ → Option Op → Option OpenStep
open_step client entry running = option_map (λ op. record { client = client; entry = entry; op = op }) running

-- A step on that board is the entry's.
abbrev pub IsOwnStep : Facts → List Row → ℕ → ℕ → OpenStep → Type 0
IsOwnStep facts rows entry number s = (s.entry == entry) ≡ false → is_board_of facts rows s.entry number ≡ false

-- A claim runs. Its entry is the client's live one, and holds the payload's blocks; that step of it is
-- open, or none; its board is the entry's, this step alone is open on it, and it shows what the log saw of
-- it last; the trace is the log's; and the payload is the one with which the entry was taken. No other
-- entry has a step open on the board, while the boot isn't off.
pub record ClaimRuns (basis : Basis) (first : List Seen) (past : List Event) (client : ℕ) (parts : Parts) (number : ℕ) (l : LiveEntry) (running : Option Op) : Type 0 where
  pub live : live_entry past parts.entry ≡ Some l
  pub client_is : l.client ≡ client
  pub blocks_are : parts.payload.count ≡ l.blocks
  pub open_is : step_open past parts.entry ≡ open_step client parts.entry running
  pub board_is : board_of basis.facts (rows basis past) parts.entry ≡ Some number
  pub opened : open_on basis past number ≡ open_step client parts.entry running
  pub alone : off past ≡ false → AllByRecursion (IsOwnStep basis.facts (rows basis past) parts.entry number) (open_steps past)
  pub stands : StandsOut basis first past number parts.board []
  pub shown : view_of parts.board.condition ≡ seen basis past number
  pub traced : trace basis parts.entry past ≡ Some parts.trace
  pub digest : digest_of (rows basis past) parts.entry ≡ parts.payload.digest
  pub raw : raw_of parts.entry past ≡ Some (raw_number parts.payload)

-- ---- what a plugin's step did

-- What the plugin's step of each kind may leave of a board, for an entry and a payload.
abbrev pub StepLeft : Op → ℕ → Image → BoardState → Result ⊤ BoardFault → BoardState → Type 0
StepLeft Op.Prepare entry image old answer new = Plain old answer new
StepLeft Op.Detach entry image old answer new = Detached old answer new
StepLeft Op.Write entry image old answer new = Written entry image old answer new
StepLeft Op.Attach entry image old answer new = Attached old answer new
StepLeft Op.Reload entry image old answer new = Plain old answer new
StepLeft Op.Cleanup entry image old answer new = Plain old answer new

-- What a claim owns as its entry is taken.
abbrev pub parts_taken : Taken → Parts
parts_taken taken = record { entry = taken.entry; board = taken.board; payload = taken.payload; trace = taken.trace }
