-- What a boot of a house did.
use Rattle.std.specs.Prelude.{◌≡◌, ◌≤◌, ◌<◌, ◌+◌, ◌-◌, ◌^◌, ℕ, length, true, false, MatchBool, List, [], ◌∷◌, ◌++◌, None, Result, Ok, Err}
use Rattle.history_keeper.specs.declared.row.Row.{Row}
use Rattle.history_keeper.specs.Histories.{IsFirstFaulty, IsHistory}
use Rattle.history_keeper.specs.Keepers.{StillTold}
use Rattle.history_keeper.specs.Signs.{KeeperSigns}
use Rattle.update_log.specs.Crashes.{next_boot}
use Rattle.update_log.specs.declared.event.BoardSeen.{BoardSeen}
use Rattle.update_log.specs.declared.event.Found.{Found}
use Rattle.update_log.specs.declared.facts.BootPlan.{BootPlan}
use Rattle.update_log.specs.Holding.{holds, live}
use Rattle.update_log.specs.Pasts.{boots, is_found_fault}
use Rattle.daemon_core.specs.declared.booting.BootStop.{BootStop}
use Rattle.daemon_core.specs.Booting.{AllStarted}
use Rattle.daemon_core.specs.Housed.{Housed, past}
use Rattle.daemon_core.specs.Keeping.{HasRows}
use Rattle.daemon_core.specs.Reading.{AreOthers, AreTold, CanBoot, WasShown, place_told}

-- The facts, the first images and the pool are as before.
pub record SameGrounds {K : Type 0} (old new : Housed K) : Type 0 where
  pub facts : new.house_log.facts ≡ old.house_log.facts
  pub first : new.house_log.first ≡ old.house_log.first
  pub pool : new.pool ≡ old.pool

-- The next boot was put behind the log, and each board was started.
pub record BootNoted {K : Type 0} (plan : BootPlan) (found : Found) (listed : List BoardSeen) (old new : Housed K) : Type 0 where
  pub grounds : SameGrounds old new
  pub log : new.house_log.core.log ≡ old.house_log.core.log ++ next_boot (past old) plan found listed ∷ []
  pub makers : new.house_log.makers ≡ old.house_log.makers ++ 0 ∷ []
  pub started : AllStarted plan old.places new.places listed

-- Nothing was put behind the log, and no board was started. While no boot took the rows, the keeper tells
-- those that it told.
pub record NoBoot {K : Type 0} (told : K → List Row → Type 0) (old new : Housed K) : Type 0 where
  pub grounds : SameGrounds old new
  pub log : new.house_log.core.log ≡ old.house_log.core.log
  pub makers : new.house_log.makers ≡ old.house_log.makers
  pub loaded : new.house_log.loaded ≡ old.house_log.loaded
  pub places : new.places ≡ old.places
  pub stays : old.house_log.loaded ≡ false → StillTold (told old.keeper) (told new.keeper)

-- A boot that went well. The first one took the rows that the keeper told for those before the log, and the
-- keeper has the rows of the log, without a doubt: a later one says what became of a change in doubt, as the
-- reopened store showed it.
pub record WentWell {K : Type 0} (signs : KeeperSigns K) (settled : K → K → Type 0) (plan : BootPlan) (found : Found) (listed : List BoardSeen) (old new : Housed K) : Type 0 where
  pub noted : BootNoted plan found listed old new
  pub read : is_found_fault found ≡ false
  pub loaded : new.house_log.loaded ≡ true
  pub reopened : new.house_log.reopened ≡ false
  pub opening : MatchBool old.house_log.loaded (new.house_log.opening ≡ old.house_log.opening) (IsHistory new.house_log.opening × AreTold (signs.tells old.keeper) (signs.tells new.keeper) new.house_log.opening)
  pub shown : old.house_log.loaded ≡ true → WasShown signs.tells settled new.house_log.core.rows old.keeper new.keeper
  pub keeps : HasRows signs new.keeper new.house_log.core.rows None

-- A boot that couldn't read the history. While no boot took the rows, the keeper tells those that it told.
pub record CouldntRead {K : Type 0} (told : K → List Row → Type 0) (plan : BootPlan) (listed : List BoardSeen) (old new : Housed K) : Type 0 where
  pub noted : BootNoted plan Found.Fault listed old new
  pub loaded : new.house_log.loaded ≡ old.house_log.loaded
  pub opening : new.house_log.opening ≡ old.house_log.opening
  pub stays : old.house_log.loaded ≡ false → StillTold (told old.keeper) (told new.keeper)

-- The first row that breaks a rule has that place.
pub record BreaksAt (entry : ℕ) (rows : List Row) : Type 0 where
  pub at : ℕ
  pub faulty : IsFirstFaulty rows at
  pub entry_is : entry ≡ place_told at

-- A boot that read no valid history, while none had gone well, or later other rows than the log's: then the
-- keeper tells none, since its store isn't to be trusted.
pub record ReadOthers {K : Type 0} (told : K → List Row → Type 0) (entry : ℕ) (old new : Housed K) : Type 0 where
  pub none : NoBoot told old new
  pub first : old.house_log.loaded ≡ false → BreaksAt entry new.house_log.opening × AreTold (told old.keeper) (told new.keeper) new.house_log.opening
  pub later : old.house_log.loaded ≡ true → (new.house_log.opening ≡ old.house_log.opening) × ((all : List Row) → told new.keeper all → ⊥)
      × ((loaded : List Row) × AreOthers entry loaded old.house_log.core.rows old.house_log.core.doubt)

-- What a boot did, by its answer.
abbrev pub BootTurned : {A K : Type 0} → KeeperSigns K → (K → K → Type 0) → BootPlan → Result A BootStop → Housed K → Housed K → Type 0
BootTurned signs settled plan (Ok _) old new = (found : Found) × (listed : List BoardSeen) × WentWell signs settled plan found listed old new
BootTurned signs settled plan (Err BootStop.KeeperFault) old new = (listed : List BoardSeen) × CouldntRead signs.tells plan listed old new
BootTurned signs settled plan (Err (BootStop.BadHistory entry)) old new = ReadOthers signs.tells entry old new
BootTurned signs settled plan (Err BootStop.NoMemory) old new = NoBoot signs.tells old new × (new.house_log.opening ≡ old.house_log.opening)

-- A boot that found this can be put behind the log: no client has anything out, there is room for it and
-- for its boards, and its time and number fit.
pub record IsReady {K : Type 0} (signs : KeeperSigns K) (plan : BootPlan) (found : Found) (listed : List BoardSeen) (capacity : ℕ) (h : Housed K) : Type 0 where
  pub holds : holds (past h) ≡ []
  pub live : live (past h) ≡ []
  pub can : CanBoot signs found h
  pub empty : listed ≡ []
  pub enough : length h.places ≤ capacity
  pub room : 2 ≤ h.house_log.room
  pub few : boots (past h) + 1 < 2 ^ 32
  pub timely : plan.time ≤ 2 ^ 63 - 1
