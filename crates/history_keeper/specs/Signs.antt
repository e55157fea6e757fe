-- What a keeper shows.
use Rattle.std.specs.Prelude.{ℕ, List, Option}
use Rattle.history_keeper.specs.declared.change.Change.{Change}
use Rattle.history_keeper.specs.declared.row.Row.{Row}

-- The rows that it tells, the change that it is in doubt about, and how many faults it counted.
pub record KeeperSigns (K : Type 0) : Type 1 where
  pub tells : K → List Row → Type 0
  pub doubt : K → Option Change
  pub faults : K → ℕ

abbrev pub signs_of : {K : Type 0} → (K → List Row → Type 0) → (K → Option Change) → (K → ℕ) → KeeperSigns K
signs_of tells doubt faults = record { tells = tells; doubt = doubt; faults = faults }
