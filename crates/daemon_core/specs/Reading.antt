-- What a boot reads of the history.
use Rattle.std.specs.Prelude.{◌≡◌, ◌⊎◌, ◌≤◌, ◌+◌, ◌-◌, ◌^◌, ℕ, false, true, min, List, length, Option, Some, None, Result, Ok, Err}
use Rattle.fw_base.specs.declared.memory.NoMemory.{NoMemory}
use Rattle.outer_traits.specs.Faults.{Rose}
use Rattle.history_keeper.specs.declared.change.Change.{Change}
use Rattle.history_keeper.specs.declared.row.Row.{Row}
use Rattle.history_keeper.specs.Histories.{IsFirstFaulty, IsHistory}
use Rattle.history_keeper.specs.Keepers.{StillSettled, StillTold, with_doubt}
use Rattle.history_keeper.specs.Signs.{KeeperSigns}
use Rattle.update_log.specs.declared.event.Found.{Found}
use Rattle.update_log.specs.Known.{doubt_found, rows_found}
use Rattle.update_log.specs.Legal.{FoundAllowed}
use Rattle.update_log.specs.Pasts.{is_found_fault}
use Rattle.daemon_core.specs.declared.reading.Loaded.{Loaded}
use Rattle.daemon_core.specs.Booting.{opened}
use Rattle.daemon_core.specs.Comparing.{DifferFirstAt}
use Rattle.daemon_core.specs.Housed.{HouseLogView, Housed}
use Rattle.daemon_core.specs.Keeping.{HasRows, Keeps, KeepsSo, still_reopened}
use Rattle.daemon_core.specs.Turns.{ToldBefore}

-- A place counted from 1, or 2^32 - 1 where that is less.
abbrev pub place_told : ℕ → ℕ
place_told at = min (at + 1) (2 ^ 32 - 1)

-- What a boot finds whose rows are those of the log without the change in doubt.
abbrev pub found_unchanged : Option Change → Found
found_unchanged (Some change) = Found.Lost
found_unchanged None = Found.Plain

-- The rows that were loaded are those of the log with what was found.
pub record AreFound (found : Found) (loaded rows : List Row) (doubt : Option Change) : Type 0 where
  pub allowed : FoundAllowed found doubt
  pub well : is_found_fault found ≡ false
  pub rows_are : rows_found found doubt rows ≡ loaded

-- The rows that were loaded aren't those of the log, without the change in doubt or with it: they differ
-- from those without it first at this place.
pub record AreOthers (entry : ℕ) (loaded rows : List Row) (doubt : Option Change) : Type 0 where
  pub at : ℕ
  pub differ : DifferFirstAt loaded rows at
  pub neither : loaded ≡ with_doubt doubt rows → ⊥
  pub entry_is : entry ≡ place_told at

-- What the rows that were loaded say.
abbrev pub Became : Loaded → List Row → List Row → Option Change → Type 0
Became (Loaded.Found found) loaded rows doubt = AreFound found loaded rows doubt
Became (Loaded.Bad entry) loaded rows doubt = AreOthers entry loaded rows doubt
Became Loaded.Fault loaded rows doubt = ⊥

-- Rows are read which the keeper told before, if it tells any still.
abbrev pub AreTold : (List Row → Type 0) → (List Row → Type 0) → List Row → Type 0
AreTold before after loaded = (all : List Row) → after all → before loaded

-- No change was made of the keeper: it is what a reopening made of the first, or still what it was made of.
abbrev pub IsUngiven : {K : Type 0} → (K → K → Type 0) → K → K → Type 0
IsUngiven settled before after = settled before after ⊎ StillSettled settled before after

-- What reading the history leaves of a keeper, whatever came of it: no change was made of it, and where it tells rows
-- now it told rows before.
pub record WasRead {K : Type 0} (told : K → List Row → Type 0) (settled : K → K → Type 0) (before after : K) : Type 0 where
  pub ungiven : IsUngiven settled before after
  pub told_before : ToldBefore told before after

-- The rows before the log were taken: they are a valid history, and the keeper's.
pub record FirstTaken {K : Type 0} (signs : KeeperSigns K) (found : Found) (old new : HouseLogView) (before after : K) : Type 0 where
  pub found_is : found ≡ Found.Plain
  pub history : IsHistory new.opening
  pub opened_so : new ≡ opened new.opening new.core.row_room old
  pub told_are : AreTold (signs.tells before) (signs.tells after) new.opening
  pub keeps : HasRows signs after new.opening None

-- They were refused: they are no valid history.
pub record FirstRefused {K : Type 0} (signs : KeeperSigns K) (entry : ℕ) (old new : HouseLogView) (before after : K) : Type 0 where
  pub at : ℕ
  pub faulty : IsFirstFaulty new.opening at
  pub entry_is : entry ≡ place_told at
  pub same : new ≡ record old { opening = new.opening }
  pub told_are : AreTold (signs.tells before) (signs.tells after) new.opening
  pub told_stay : StillTold (signs.tells before) (signs.tells after)
  pub no_doubt : signs.doubt after ≡ None

-- They couldn't be read: all is as before, and the keeper tells the rows that it told.
pub record NothingRead {K : Type 0} (signs : KeeperSigns K) (old new : HouseLogView) (before after : K) : Type 0 where
  pub same : new ≡ old
  pub told_stay : StillTold (signs.tells before) (signs.tells after)
  pub no_doubt : signs.doubt after ≡ None

-- The rows before the log were read. A fault of the keeper is told as one, and nothing else is: under every other
-- answer its count is as it was.
abbrev pub FirstRead : {K : Type 0} → KeeperSigns K → Result Loaded NoMemory → HouseLogView → HouseLogView → K → K → Type 0
FirstRead signs (Ok (Loaded.Found found)) old new before after = FirstTaken signs found old new before after × (signs.faults after ≡ signs.faults before)
FirstRead signs (Ok (Loaded.Bad entry)) old new before after = FirstRefused signs entry old new before after × (signs.faults after ≡ signs.faults before)
FirstRead signs (Ok Loaded.Fault) old new before after = NothingRead signs old new before after × Rose (signs.faults before) (signs.faults after)
FirstRead signs (Err refused) old new before after = NothingRead signs old new before after × (signs.faults after ≡ signs.faults before)

-- The keeper is what a reopening made of it, and these rows were loaded from it then: it tells no others. No change
-- was made after that, so what is said of the change in doubt is what the reopened store showed.
pub record WasShown {K : Type 0} (told : K → List Row → Type 0) (settled : K → K → Type 0) (loaded : List Row) (before after : K) : Type 0 where
  pub reopened : settled before after
  pub loaded_are : (all : List Row) → told after all → loaded ≡ all

-- The rows that the reopened keeper showed are those of the log with what was found.
pub record LaterFound {K : Type 0} (signs : KeeperSigns K) (settled : K → K → Type 0) (found : Found) (rows : List Row) (doubt : Option Change) (before after : K) : Type 0 where
  pub allowed : FoundAllowed found doubt
  pub well : is_found_fault found ≡ false
  pub shown : WasShown signs.tells settled (rows_found found doubt rows) before after
  pub keeps : HasRows signs after (rows_found found doubt rows) None

-- They are others: so the keeper tells none.
pub record LaterOthers {K : Type 0} (signs : KeeperSigns K) (settled : K → K → Type 0) (entry : ℕ) (rows : List Row) (doubt : Option Change) (before after : K) : Type 0 where
  pub loaded : List Row
  pub others : AreOthers entry loaded rows doubt
  pub shown : WasShown signs.tells settled loaded before after
  pub silent : (all : List Row) → signs.tells after all → ⊥
  pub keeps : Keeps signs after rows doubt

-- The history was read again. A fault of the keeper is told as one, and nothing else is.
abbrev pub LaterRead : {K : Type 0} → KeeperSigns K → (K → K → Type 0) → Result Loaded NoMemory → List Row → Option Change → K → K → Type 0
LaterRead signs settled (Ok (Loaded.Found found)) rows doubt before after = LaterFound signs settled found rows doubt before after × (signs.faults after ≡ signs.faults before)
LaterRead signs settled (Ok (Loaded.Bad entry)) rows doubt before after = LaterOthers signs settled entry rows doubt before after × (signs.faults after ≡ signs.faults before)
LaterRead signs settled (Ok Loaded.Fault) rows doubt before after = Keeps signs after rows doubt × Rose (signs.faults before) (signs.faults after)
LaterRead signs settled (Err refused) rows doubt before after = Keeps signs after rows doubt × (signs.faults after ≡ signs.faults before)

-- A boot that found this may be put behind the log: there is room for a row that it adds, and the keeper
-- has the rows that the log has then; or it was opened again, and the boot couldn't read the history.
pub record CanBoot {K : Type 0} (signs : KeeperSigns K) (found : Found) (h : Housed K) : Type 0 where
  pub allowed : FoundAllowed found h.house_log.core.doubt
  pub unloaded : h.house_log.loaded ≡ false → is_found_fault found ≡ true
  pub keeps : h.house_log.loaded ≡ true → KeepsSo (still_reopened found h.house_log.reopened) signs h.keeper (rows_found found h.house_log.core.doubt h.house_log.core.rows) (doubt_found found h.house_log.core.doubt)
  pub row : length (rows_found found h.house_log.core.doubt h.house_log.core.rows) ≤ length h.house_log.core.rows + h.house_log.core.row_room

-- So may one that read the history, or couldn't.
abbrev pub CanBootAfter : {K : Type 0} → KeeperSigns K → Result Loaded NoMemory → Housed K → Type 0
CanBootAfter signs (Ok (Loaded.Found found)) h = CanBoot signs found h
CanBootAfter signs (Ok Loaded.Fault) h = CanBoot signs Found.Fault h
CanBootAfter signs (Ok (Loaded.Bad entry)) h = Unit {0}
CanBootAfter signs (Err refused) h = Unit {0}
