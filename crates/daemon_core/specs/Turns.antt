-- What one call of a house did.
use Rattle.std.specs.Prelude.{◌≡◌, ◌⊎◌, ◌≤◌, ◌+◌, ◌-◌, ◌^◌, ℕ, true, false, List, Result, Ok, Err}
use Rattle.history_keeper.specs.declared.row.Row.{Row}
use Rattle.history_keeper.specs.Signs.{KeeperSigns}
use Rattle.update_log.specs.declared.event.Event.{Event}
use Rattle.update_log.specs.Pasts.{off}
use Rattle.daemon_core.specs.declared.stop.Stop.{Stop}
use Rattle.daemon_core.specs.HouseLog.{Appended, Runs, Unchanged}
use Rattle.daemon_core.specs.Housed.{HouseLogView, Housed, past, past_in}
use Rattle.daemon_core.specs.Keeping.{keeper_faults}

-- The call was answered off: the boot was off already, or its power was cut in this turn.
abbrev pub WentOff : ℕ → HouseLogView → HouseLogView → Type 0
WentOff client old new =
    ((off (past_in old) ≡ true) × Unchanged old new)
    ⊎ ((off (past_in old) ≡ false) × Appended client Event.Cut old new)

-- A turn of a client that answers by the event that it put behind the log, and else by why it put none
-- there.
abbrev pub Turned : {A : Type 0} → ℕ → (A → Event) → Result A Stop → HouseLogView → HouseLogView → Type 0
Turned client event (Ok answer) old new = Runs old × Appended client (event answer) old new
Turned client event (Err Stop.Off) old new = WentOff client old new
Turned client event (Err Stop.NoMemory) old new = (off (past_in old) ≡ false) × Unchanged old new

-- A keeper that tells rows now told rows before.
abbrev pub ToldBefore : {K : Type 0} → (K → List Row → Type 0) → K → K → Type 0
ToldBefore told old new = (all : List Row) → told new all → (before : List Row) × told old before

-- What the log tells of the keeper's faults is what it counted: its count rose by as many as the log gained, or
-- stands at its end, and where the log gained none it is as it was. A keeper that tells rows now told rows before.
pub record KeeperFared {K : Type 0} (signs : KeeperSigns K) (old new : Housed K) : Type 0 where
  pub grows : keeper_faults (past old) ≤ keeper_faults (past new)
  pub counted : (keeper_faults (past new) + signs.faults old.keeper ≤ keeper_faults (past old) + signs.faults new.keeper) ⊎ (2 ^ 64 - 1 ≤ signs.faults new.keeper)
  pub quiet : keeper_faults (past new) ≡ keeper_faults (past old) → signs.faults new.keeper ≡ signs.faults old.keeper
  pub told : ToldBefore signs.tells old.keeper new.keeper
