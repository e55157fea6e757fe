-- A load of the history before anything is planned.
use Rattle.std.specs.Prelude.{◌≡◌, ◌⊎◌, ◌≤◌, ℕ, List, [], Option, Some, None}
use Rattle.outer_traits.specs.Faults.{Rose}
use Rattle.history_keeper.specs.declared.row.Row.{Row}
use Rattle.history_keeper.specs.Histories.{IsHistory}
use Rattle.history_keeper.specs.Keepers.{StillTold}
use Rattle.history_keeper.specs.Signs.{KeeperSigns}
use Rattle.daemon_core.specs.Boots.{BreaksAt}
use Rattle.daemon_core.specs.Reading.{AreTold}
use Rattle.run_status.specs.declared.status.Status.{Status}
use Rattle.run_status.specs.declared.status.Status.TheVariants as statuses
use Rattle.fwupd_service.specs.declared.loading.LoadStop.{LoadStop}
use Rattle.fwupd_service.specs.declared.loading.LoadStop.TheVariants as loads

-- How a status tells that nothing is planned over the rows.
abbrev pub load_status : LoadStop → Status
load_status loads.KeeperFault = statuses.KeeperFault
load_status (loads.BadHistory entry) = statuses.BadHistory entry
load_status loads.NoMemory = statuses.NoMemory

-- What a load says of the rows that it gave, by why nothing is planned over them: they are those that the keeper
-- told, if it tells any still, and a valid history; or the keeper failed, and gave none; or they are its own and break
-- a rule first in this row; or memory was wanting, before it gave any or after.
abbrev pub LoadSays : Option LoadStop → (List Row → Type 0) → (List Row → Type 0) → List Row → ℕ → ℕ → Type 0
LoadSays None came now rows before after = AreTold came now rows × IsHistory rows
LoadSays (Some loads.KeeperFault) came now rows before after = (rows ≡ []) × Rose before after
LoadSays (Some (loads.BadHistory entry)) came now rows before after = AreTold came now rows × BreaksAt entry rows
LoadSays (Some loads.NoMemory) came now rows before after = (rows ≡ []) ⊎ AreTold came now rows

-- What is found of rows that were loaded.
abbrev pub IsJudged : Option LoadStop → List Row → Type 0
IsJudged None rows = IsHistory rows
IsJudged (Some (loads.BadHistory entry)) rows = BreaksAt entry rows
IsJudged (Some loads.NoMemory) rows = Unit {0}
IsJudged (Some loads.KeeperFault) rows = ⊥

-- A load gave these rows. What the keeper tells it told before, and it has no doubt; and where the load tells no fault
-- of it, it counted none.
pub record WasLoaded {K : Type 0} (signs : KeeperSigns K) (stop : Option LoadStop) (rows : List Row) (old new : K) : Type 0 where
  pub says : LoadSays stop (signs.tells old) (signs.tells new) rows (signs.faults old) (signs.faults new)
  pub told_stay : StillTold (signs.tells old) (signs.tells new)
  pub no_doubt : signs.doubt new ≡ None
  pub quiet : (stop ≡ Some loads.KeeperFault) ⊎ (signs.faults new ≡ signs.faults old)
  pub counts : signs.faults old ≤ signs.faults new
