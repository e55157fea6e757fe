-- What a client may do with a live entry of its own, by the log that it saw.
use Rattle.std.specs.Prelude.{◌≡◌, ℕ, true, List, [], Result}
use Rattle.emulated_boards.specs.Boards.{BoardState}
use Rattle.emulated_boards.specs.declared.fault.BoardFault.{BoardFault}
use Rattle.emulated_boards.specs.declared.mark.Mark.{Mark}
use Rattle.history_keeper.specs.declared.row.RowState.{RowState}
use Rattle.update_log.specs.declared.event.Op.{Op}
use Rattle.update_log.specs.declared.live.LiveEntry.{LiveEntry}
use Rattle.update_log.specs.Legal.{StartAllowed}
use Rattle.update_log.specs.Pasts.{off}
use Rattle.daemon_core.specs.Finishes.{IsDone}
use Rattle.daemon_core.specs.Returns.{ComesHome, StepEnds}
use Rattle.shared_daemon.specs.declared.entry.Entry.{Entry}
use Rattle.shared_daemon.specs.Entries.{past_seen}
use Rattle.daemon_core.specs.Planned.{HasPlan}
use Rattle.shared_daemon.specs.Names.{Name}
use Rattle.shared_daemon.specs.Others.{IsOwn}

-- It starts the next step, of which none is open.
abbrev pub MayStart : Name → ℕ → ℕ → Op → List Entry → Type 0
MayStart name client entry op seen = (l : LiveEntry) × StartAllowed name.basis (past_seen seen) client entry op l

-- It ends the open step, with the entry's board.
pub record EndsOwn (name : Name) (client entry : ℕ) (op : Op) (outcome : Result (Unit {0}) BoardFault) (board : BoardState) (seen : List Entry) : Type 0 where
  pub l : LiveEntry
  pub number : ℕ
  pub own : IsOwn (past_seen seen) client entry l
  pub ends : StepEnds name.basis name.first (past_seen seen) client entry op outcome number board

-- It finishes the entry, which has no next step: all marks of its board were told, its planned faults are
-- those of its number, and as many blocks come back as it holds.
pub record MayFinish (name : Name) (client entry : ℕ) (board : BoardState) (blocks : ℕ) (seen : List Entry) : Type 0 where
  pub l : LiveEntry
  pub number : ℕ
  pub closed : RowState
  pub comes : ComesHome name.basis name.first (past_seen seen) client entry number l [] board blocks
  pub planned : HasPlan name.plans number board
  pub done : IsDone name.basis (past_seen seen) entry closed

-- It gives the entry back, where the boot is off: marks of its board may be left untold.
pub record GoesHome (name : Name) (client entry : ℕ) (board : BoardState) (blocks : ℕ) (seen : List Entry) : Type 0 where
  pub l : LiveEntry
  pub number : ℕ
  pub tail : List Mark
  pub comes : ComesHome name.basis name.first (past_seen seen) client entry number l tail board blocks
  pub planned : HasPlan name.plans number board
  pub off_is : off (past_seen seen) ≡ true
