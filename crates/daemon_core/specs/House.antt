-- What the type of a house keeps.
use Rattle.std.specs.Prelude.{◌≡◌, ◌+◌, ℕ, true, false, List, [], length, map, Some, None, slice_get}
use Rattle.block_pool.specs.Views.{PoolCounts}
use Rattle.emulated_boards.specs.Boards.{BoardState}
use Rattle.emulated_boards.specs.Conditions.{fresh, view_of}
use Rattle.emulated_boards.specs.declared.image.Image.{Image}
use Rattle.fw_facts.specs.declared.seen.Seen.{Seen}
use Rattle.history_keeper.specs.Signs.{KeeperSigns}
use Rattle.update_log.specs.declared.facts.Facts.{Facts}
use Rattle.update_log.specs.Holding.{held}
use Rattle.daemon_core.specs.HouseLog.{IsBlank}
use Rattle.daemon_core.specs.Housed.{basis_in, Housed, Place, past}
use Rattle.daemon_core.specs.Boards.{PlaceStands}
use Rattle.daemon_core.specs.Keeping.{KeepsSo}

-- What the type of a house keeps beside its house log: the boards at home fit the log; the keeper has its
-- rows, once a boot took those that it loaded, or was opened again where the house log says so, and is in no
-- doubt before; and the free blocks are those that nobody holds.
pub record IsHouse {K : Type 0} (signs : KeeperSigns K) (h : Housed K) : Type 0 where
  pub count : length h.places ≡ length h.house_log.facts.sheets
  pub places : (number : ℕ) (place : Place) → slice_get h.places number ≡ Some place → PlaceStands (basis_in h.house_log) h.house_log.first (past h) number place
  pub unloaded : h.house_log.loaded ≡ false → signs.doubt h.keeper ≡ None
  pub kept : h.house_log.loaded ≡ true → KeepsSo h.house_log.reopened signs h.keeper h.house_log.core.rows h.house_log.core.doubt
  pub capacity : h.pool.capacity ≡ h.house_log.facts.pool
  pub free : h.pool.free + held (past h) ≡ h.house_log.facts.pool

-- The boards, the pool and the keeper are as before.
pub record SameElsewhere {K : Type 0} (old new : Housed K) : Type 0 where
  pub places : new.places ≡ old.places
  pub pool : new.pool ≡ old.pool
  pub keeper : new.keeper ≡ old.keeper

-- A board as it is made: it runs its first image at home, and nothing was done to it.
pub record IsNewBoard (b : BoardState) : Type 0 where
  pub image : Image
  pub condition : b.condition ≡ fresh image
  pub journal : b.journal ≡ []
  pub faults : b.faults ≡ 0

-- What a board shows.
abbrev pub shown_by : BoardState → Seen
shown_by b = view_of b.condition

-- The place of a board at home of which nothing was told.
abbrev pub place_of : BoardState → Place
place_of b = record { board = Some b; told = 0 }

-- A house as it is made of these facts and boards.
pub record IsNewHouse {K : Type 0} (facts : Facts) (boards : List BoardState) (pool : PoolCounts) (keeper : K) (h : Housed K) : Type 0 where
  pub blank : IsBlank facts (map shown_by boards) h.house_log
  pub places : h.places ≡ map place_of boards
  pub pool_is : h.pool ≡ pool
  pub keeper_is : h.keeper ≡ keeper
