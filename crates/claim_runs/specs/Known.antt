-- What is known of a claim that runs, by the log that its pass saw last.
use Rattle.std.specs.Prelude.{◌≡◌, ℕ, List, Option, Some, Result, ⊤}
use Rattle.emulated_boards.specs.Boards.{BoardState}
use Rattle.emulated_boards.specs.Images.{payload_image}
use Rattle.emulated_boards.specs.declared.fault.BoardFault.{BoardFault}
use Rattle.emulated_boards.specs.declared.mark.Mark.{Mark}
use Rattle.update_log.specs.declared.event.Op.{Op}
use Rattle.update_log.specs.declared.live.LiveEntry.{LiveEntry}
use Rattle.daemon_core.specs.Returns.{ComesHome}
use Rattle.device_claims.specs.Claims.{Noted}
use Rattle.device_claims.specs.declared.claim.Parts.{Parts}
use Rattle.install_engine.specs.Runs.{ClaimRuns, StepLeft}
use Rattle.turn_lock.specs.Shown.{PassView}
use Rattle.shared_daemon.specs.declared.entry.Entry.{Entry}
use Rattle.shared_daemon.specs.Entries.{past_seen}
use Rattle.daemon_core.specs.Planned.{HasPlan}
use Rattle.shared_daemon.specs.Names.{Name}

-- A claim of the client runs, by the log that was seen; that step of it is open, or none. Its board has the
-- faults planned that its number has.
pub record RunsSeen (name : Name) (client : ℕ) (parts : Parts) (running : Option Op) (seen : List Entry) : Type 0 where
  pub number : ℕ
  pub l : LiveEntry
  pub runs : ClaimRuns name.basis name.first (past_seen seen) client parts number l running
  pub planned : HasPlan name.plans number parts.board

-- A claim of that entry runs, by what the pass saw last: the entry is the live one of the pass's client, and
-- the claim's trace is that of the log.
pub record RunsFor (name : Name) (entry : ℕ) (running : Option Op) (pass : PassView Entry) (parts : Parts) : Type 0 where
  pub entry_is : parts.entry ≡ entry
  pub seen_so : RunsSeen name pass.number parts running pass.seen

-- The board of a live entry of the client may come home, with so many blocks.
pub record HomeSeen (name : Name) (client entry : ℕ) (board : BoardState) (blocks : ℕ) (seen : List Entry) : Type 0 where
  pub number : ℕ
  pub l : LiveEntry
  pub tail : List Mark
  pub comes : ComesHome name.basis name.first (past_seen seen) client entry number l tail board blocks
  pub planned : HasPlan name.plans number board

-- A step of the entry is open, and the plugin made it of the claim as it was before: this is its answer,
-- and the claim as it is now.
pub record StepToEnd (name : Name) (entry : ℕ) (op : Op) (answer : Result ⊤ BoardFault) (pass : PassView Entry) (now : Parts) : Type 0 where
  pub before : Parts
  pub runs : RunsFor name entry (Some op) pass before
  pub left : StepLeft op before.entry (payload_image before.payload) before.board answer now.board
  pub noted : Noted op before answer now
