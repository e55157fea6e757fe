-- What contracts see of a house.
use Rattle.std.specs.Prelude.{ℕ, Bool, true, false, List, [], Option}
use Rattle.fw_facts.specs.declared.seen.Seen.{Seen}
use Rattle.block_pool.specs.Views.{PoolCounts}
use Rattle.emulated_boards.specs.Boards.{BoardState}
use Rattle.history_keeper.specs.declared.row.Row.{Row}
use Rattle.update_log.specs.declared.event.Event.{Event}
use Rattle.update_log.specs.declared.facts.Facts.{Facts}
use Rattle.update_log.specs.declared.facts.BootPlan.{BootPlan}
use Rattle.core_state.specs.Core.{Core}
use Rattle.update_log.specs.Shows.{Campaign, campaign_on}
use Rattle.update_log.specs.Pasts.{past_of}
use Rattle.update_log.specs.Known.{Basis, basis_of}

-- The facts, what each first image shows, the rows that a boot loaded and whether one took them for
-- the rows before the log, whether the keeper was opened again and no boot behind the log says yet what
-- became of the change in doubt, what stands for the log, who made each of its events, and for how many
-- events more there is room.
pub record HouseLogView : Type 0 where
  pub facts : Facts
  pub first : List Seen
  pub opening : List Row
  pub loaded : Bool
  pub reopened : Bool
  pub core : Core
  pub makers : List ℕ
  pub room : ℕ

-- The rows before the log: none, until a boot took those that it loaded.
abbrev pub rows_taken : Bool → List Row → List Row
rows_taken true opening = opening
rows_taken false opening = []

abbrev pub rows_before : HouseLogView → List Row
rows_before a = rows_taken a.loaded a.opening

-- What its log stands on, and a campaign over that, whose boots have these plans.
abbrev pub basis_in : HouseLogView → Basis
basis_in a = basis_of a.facts (rows_before a)

abbrev pub campaign_in : HouseLogView → List BootPlan → Campaign
campaign_in a plans = campaign_on (basis_in a) a.first plans

-- The log read backwards.
abbrev pub past_in : HouseLogView → List Event
past_in a = past_of a.core.log

-- Where a board belongs: the board, while it is at home, and how many marks of its journal were told.
pub record Place : Type 0 where
  pub board : Option BoardState
  pub told : ℕ

-- The house log, the place of each board, the pool and the keeper.
pub record Housed (K : Type 0) : Type 0 where
  pub house_log : HouseLogView
  pub places : List Place
  pub pool : PoolCounts
  pub keeper : K

-- The log of a house, read backwards.
abbrev pub past : {K : Type 0} → Housed K → List Event
past h = past_in h.house_log
