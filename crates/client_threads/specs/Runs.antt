-- What the boots of a campaign did to a house.
use Rattle.std.specs.Prelude.{◌≡◌, ◌⊎◌, ◌≤◌, ◌<◌, ℕ, Bool, true, MatchBool, List, [], ◌∷◌, length, Option, Some, None, Result, Ok, Err}
use Rattle.history_keeper.specs.declared.row.Row.{Row}
use Rattle.history_keeper.specs.Keepers.{StillTold}
use Rattle.history_keeper.specs.Signs.{KeeperSigns}
use Rattle.update_log.specs.declared.event.BoardSeen.{BoardSeen}
use Rattle.update_log.specs.declared.event.Found.{Found}
use Rattle.update_log.specs.declared.facts.BootPlan.{BootPlan}
use Rattle.update_log.specs.Pasts.{AllFaults, boots}
use Rattle.update_log.specs.Crashes.{next_boot}
use Rattle.daemon_core.specs.declared.booting.BootStop.{BootStop}
use Rattle.daemon_core.specs.HouseLog.{IsHouseLog}
use Rattle.daemon_core.specs.Boots.{ReadOthers}
use Rattle.daemon_core.specs.Housed.{basis_in, Housed, past, rows_before}
use Rattle.daemon_core.specs.Reading.{AreTold}
use Rattle.daemon_core.specs.Turns.{KeeperFared}
use Rattle.daemon_core.specs.Planned.{KeepsPlans}
use Rattle.client_scripts.specs.declared.item.Item.{Item}
use Rattle.client_plays.specs.Endings.{HouseBootPlayed, IsIdle, ReadLast}
use Rattle.client_plays.specs.Scripts.{BootPlayed, EarlierPlayed, scripts_in}
use Rattle.client_plays.specs.Tools.{Means}
use Rattle.client_threads.specs.declared.ending.Ending.{Ending}
use Rattle.client_threads.specs.Planned.{BootsPlanned, IsPlanned}

-- The rows before the log, once a boot took them, are those that the keeper told as it came, if it tells any
-- still. Until then what it tells it told as it came; and what a boot refused, if one did, were those.
abbrev pub OpeningTold : {K : Type 0} → (K → List Row → Type 0) → (List Row → Type 0) → Housed K → Type 0
OpeningTold told came h =
    MatchBool h.house_log.loaded
    (AreTold came (told h.keeper) h.house_log.opening)
    (StillTold came (told h.keeper) × ((h.house_log.opening ≡ []) ⊎ AreTold came (told h.keeper) h.house_log.opening))

-- The same over the start of a boot: rows that were taken stay; and those that are taken in it, or refused, the
-- keeper told before.
abbrev pub OpeningStays : {K : Type 0} → (K → List Row → Type 0) → Housed K → Housed K → Type 0
OpeningStays told old new =
    MatchBool old.house_log.loaded
    ((new.house_log.loaded ≡ true) × (new.house_log.opening ≡ old.house_log.opening))
    (MatchBool new.house_log.loaded
    (AreTold (told old.keeper) (told new.keeper) new.house_log.opening)
    (StillTold (told old.keeper) (told new.keeper) × ((new.house_log.opening ≡ old.house_log.opening) ⊎ AreTold (told old.keeper) (told new.keeper) new.house_log.opening)))

-- So many boots of a campaign were run: each by its plan, in order, and played. Nobody has anything out,
-- each fault of the keeper that the log tells was counted, and each board at home has the faults planned that
-- its number had.
pub record RanSoFar {K : Type 0} (signs : KeeperSigns K) (wanting : Bool) (means : ℕ → Means) (plans : List BootPlan) (scripts : List (List (List Item))) (count : ℕ) (old new : Housed K) : Type 0 where
  pub facts : new.house_log.facts ≡ old.house_log.facts
  pub first : new.house_log.first ≡ old.house_log.first
  pub count_is : boots (past new) ≡ count
  pub planned : BootsPlanned plans (past new)
  pub played : BootPlayed wanting (basis_in new.house_log) means (scripts_in scripts count) (past new)
  pub earlier : EarlierPlayed wanting (basis_in new.house_log) means scripts (past new)
  pub idle : IsIdle (past new)
  pub counted : KeeperFared signs old new
  pub counts : signs.faults old.keeper ≤ signs.faults new.keeper
  pub board_plans : KeepsPlans old.places new.places
  pub opening : OpeningTold signs.tells (signs.tells old.keeper) new

-- How the campaign ended: all boots were run, and nobody opened the keeper again but a last one that couldn't
-- read the history; or a boot read no history that could be the log's; or memory was wanting for a boot. In
-- the last two the boots before were run.
abbrev pub EndedSo : {K : Type 0} → (K → List Row → Type 0) → Ending → List BootPlan → ℕ → Housed K → Type 0
EndedSo told Ending.Whole plans count new = (count ≡ length plans) × ReadLast new
EndedSo told (Ending.BadHistory entry) plans count new = (count < length plans) × ((mid : Housed _) × IsHouseLog mid.house_log × ReadOthers told entry mid new)
EndedSo told Ending.NoMemory plans count new = count < length plans

-- The boots of a campaign were run, as far as it went.
pub record CampaignRan {K : Type 0} (signs : KeeperSigns K) (ending : Ending) (wanting : Bool) (means : ℕ → Means) (plans : List BootPlan) (scripts : List (List (List Item))) (old new : Housed K) : Type 0 where
  pub count : ℕ
  pub ran : RanSoFar signs wanting means plans scripts count old new
  pub ended : EndedSo signs.tells ending plans count new

-- A boot began by its plan: it stands behind the log, and nothing was done in it yet. The rows before the
-- log are as before, unless no boot before could read the history, and the faults that are planned for the
-- boards at home are.
pub record HasBegun {K : Type 0} (signs : KeeperSigns K) (plan : BootPlan) (old new : Housed K) : Type 0 where
  pub facts : new.house_log.facts ≡ old.house_log.facts
  pub first : new.house_log.first ≡ old.house_log.first
  pub found : Found
  pub listed : List BoardSeen
  pub past_is : past new ≡ next_boot (past old) plan found listed ∷ past old
  pub planned : IsPlanned plan plan.time plan.limit listed
  pub before : (rows_before new.house_log ≡ rows_before old.house_log) ⊎ AllFaults (past old)
  pub read : ReadLast new
  pub counted : KeeperFared signs old new
  pub counts : signs.faults old.keeper ≤ signs.faults new.keeper
  pub board_plans : KeepsPlans old.places new.places
  pub opening : OpeningStays signs.tells old new

-- No boot began.
pub record NoneBegan {K : Type 0} (signs : KeeperSigns K) (old new : Housed K) : Type 0 where
  pub facts : new.house_log.facts ≡ old.house_log.facts
  pub first : new.house_log.first ≡ old.house_log.first
  pub past_is : past new ≡ past old
  pub before : rows_before new.house_log ≡ rows_before old.house_log
  pub counted : KeeperFared signs old new
  pub counts : signs.faults old.keeper ≤ signs.faults new.keeper
  pub board_plans : KeepsPlans old.places new.places
  pub opening : OpeningStays signs.tells old new

-- Why none began.
abbrev pub StoppedBy : {K : Type 0} → (K → List Row → Type 0) → Ending → Housed K → Housed K → Type 0
StoppedBy told Ending.Whole old new = ⊥
StoppedBy told (Ending.BadHistory entry) old new = IsHouseLog old.house_log × ReadOthers told entry old new
StoppedBy told Ending.NoMemory old new = Unit {0}

-- Whether a boot ends the campaign: a history that couldn't be read doesn't.
abbrev pub ended_by : Result (Unit {0}) BootStop → Option Ending
ended_by (Ok unit) = None
ended_by (Err BootStop.KeeperFault) = None
ended_by (Err (BootStop.BadHistory entry)) = Some (Ending.BadHistory entry)
ended_by (Err BootStop.NoMemory) = Some Ending.NoMemory

-- What became of the start of a boot: it began, or why the campaign ends.
abbrev pub StartedSo : {K : Type 0} → KeeperSigns K → Option Ending → BootPlan → Housed K → Housed K → Type 0
StartedSo signs None plan old new = HasBegun signs plan old new
StartedSo signs (Some ending) plan old new = NoneBegan signs old new × StoppedBy signs.tells ending old new
