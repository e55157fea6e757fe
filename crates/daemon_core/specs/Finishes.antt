-- What the finish of a live entry did.
use Rattle.std.specs.Prelude.{◌≡◌, ℕ, ◌+◌, List, Some, None, Result, Ok, Err}
use Rattle.block_pool.specs.Views.{SealedBytes}
use Rattle.emulated_boards.specs.Boards.{BoardState}
use Rattle.history_keeper.specs.declared.row.RowState.{RowState}
use Rattle.history_keeper.specs.declared.change.Change.{Change}
use Rattle.history_keeper.specs.Signs.{KeeperSigns}
use Rattle.update_log.specs.declared.event.Event.{Event}
use Rattle.update_log.specs.declared.event.Stored.{Stored}
use Rattle.update_log.specs.Holding.{step_open}
use Rattle.update_log.specs.Steps.{closing, next_op}
use Rattle.update_log.specs.Known.{Basis}
use Rattle.daemon_core.specs.declared.finished.Finished.{Finished}
use Rattle.daemon_core.specs.declared.finished.FinishStop.{FinishStop}
use Rattle.daemon_core.specs.HouseLog.{Appended, Runs}
use Rattle.daemon_core.specs.Commits.{StoredAs}
use Rattle.daemon_core.specs.Housed.{Housed}
use Rattle.daemon_core.specs.House.{SameElsewhere}
use Rattle.daemon_core.specs.Returns.{places_with}
use Rattle.daemon_core.specs.Turns.{WentOff}

-- The entry is done: no step of it is open, there is no next one, and it ends in that state.
pub record IsDone (basis : Basis) (past : List Event) (entry : ℕ) (closed : RowState) : Type 0 where
  pub closed_none : step_open past entry ≡ None
  pub done : next_op basis past entry ≡ None
  pub closing : closing basis past entry ≡ Some closed

-- To give a row another state takes no memory, whatever the row, the state, the reason and the time.
abbrev pub AdvancesForFree : (Change → Type 0) → Type 0
AdvancesForFree takes_none = (entry reason time : ℕ) (state : RowState) → takes_none (Change.Advance entry state reason time)

-- What became of the row: nothing is stored where it stays begun, and else the change.
abbrev pub ClosedAs : {K : Type 0} → KeeperSigns K → RowState → Change → Stored → K → K → Type 0
ClosedAs signs RowState.Begun change stored old new = (stored ≡ Stored.Unchanged) × (new ≡ old)
ClosedAs signs RowState.Pending change stored old new = StoredAs change stored (signs.tells old) (signs.tells new) (signs.doubt new)
ClosedAs signs RowState.Success change stored old new = StoredAs change stored (signs.tells old) (signs.tells new) (signs.doubt new)
ClosedAs signs RowState.Failed change stored old new = StoredAs change stored (signs.tells old) (signs.tells new) (signs.doubt new)
ClosedAs signs RowState.NeedsReboot change stored old new = StoredAs change stored (signs.tells old) (signs.tells new) (signs.doubt new)

-- A finish that was answered tells the state and what was stored, and the board and the blocks came home;
-- one that was stopped hands both back.
abbrev pub FinishedSo : {K : Type 0} → ℕ → ℕ → ℕ → BoardState → SealedBytes → Result Finished FinishStop → Housed K → Housed K → Type 0
FinishedSo client entry number board payload (Ok finished) old new =
    Runs old.house_log
    × Appended client (Event.Finish client entry finished.state finished.stored) old.house_log new.house_log
    × (new.places ≡ places_with old.places number board)
    × (new.pool.free ≡ old.pool.free + payload.count)
FinishedSo client entry number board payload (Err stop) old new =
    WentOff client old.house_log new.house_log × SameElsewhere old new × (stop.board ≡ board) × (stop.payload ≡ payload)
