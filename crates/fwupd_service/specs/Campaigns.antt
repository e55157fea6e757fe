-- What is true of a campaign that was played, however it ended.
use Rattle.std.specs.Prelude.{◌≡◌, ◌⊎◌, ◌≤◌, ◌<◌, ◌+◌, ◌-◌, ◌^◌, ℕ, true, List, [], length, map, Some, None, slice_get}
use Rattle.emulated_boards.specs.Boards.{BoardState}
use Rattle.outer_traits.specs.Faults.{RoseBy}
use Rattle.history_keeper.specs.declared.row.Row.{Row}
use Rattle.history_keeper.specs.Histories.{IsHistory}
use Rattle.history_keeper.specs.Keepers.{StillTold}
use Rattle.history_keeper.specs.Signs.{KeeperSigns}
use Rattle.update_log.specs.declared.event.Event.{Event}
use Rattle.update_log.specs.Known.{Basis, basis_of, doubt, rows}
use Rattle.update_log.specs.Legal.{Legal}
use Rattle.update_log.specs.Once.{Fits, IsTakenOnce, Once}
use Rattle.update_log.specs.Pasts.{AllFaults, boots, past_of}
use Rattle.update_log.specs.Shows.{Campaign, campaign_on}
use Rattle.daemon_core.specs.Boards.{faulty_ends, journal_and_view}
use Rattle.daemon_core.specs.Boots.{BreaksAt}
use Rattle.daemon_core.specs.House.{shown_by}
use Rattle.daemon_core.specs.Keeping.{HasRows, WasReopened, keeper_faults, last_faulted}
use Rattle.daemon_core.specs.Reading.{AreOthers, AreTold}
use Rattle.client_scripts.specs.declared.item.Item.{Item}
use Rattle.client_plays.specs.Faults.{shelf_faults}
use Rattle.client_plays.specs.Tools.{Means, ShelfTold, ShelvesStay}
use Rattle.client_threads.specs.declared.ending.Ending.{Ending}
use Rattle.client_threads.specs.declared.ending.Ran.{Ran}
use Rattle.client_threads.specs.Promises.{PlayedBoots}
use Rattle.site_types.specs.declared.campaign.Campaign as sites

-- What the log of a site's campaign stands on over the rows before it: its facts, what its boards show, and its boots.
abbrev pub campaign_over : sites.Campaign → List Row → Campaign
campaign_over campaign opening = campaign_on (basis_of campaign.facts opening) (map shown_by campaign.boards.items) campaign.boots

-- The log is legal over the rows before it, so each answer is the one that the log before it calls for: a
-- refusal names the first condition that isn't met, and an entry is judged by the version that its device
-- shows. The boards fit the log. The rows before it are a valid history, unless no boot could read them; and
-- where they are one, each write that a board lived through belongs to one accepted request, no tag has two
-- rows, no entry was taken twice, and the rows are a valid history still. A board met at least the faults
-- that the log tells of its steps.
pub record IsTrueLog (c : Campaign) (log : List Event) (boards : List BoardState) : Type 0 where
  pub legal : Legal c log
  pub fits : Fits c log (map journal_and_view boards)
  pub history : IsHistory c.basis.opening ⊎ AllFaults (past_of log)
  pub once : IsHistory c.basis.opening → Once c log (map journal_and_view boards)
  pub taken : IsHistory c.basis.opening → IsTakenOnce c.basis (past_of log)
  pub stays : IsHistory c.basis.opening → IsHistory (rows c.basis (past_of log))
  pub board_faults : (number : ℕ) (b : BoardState) → slice_get boards number ≡ Some b → faulty_ends c.basis (past_of log) number ≤ b.faults

-- No boot could read the history: what the keeper tells it told as it came, and it has no doubt.
pub record IsUntouched {K : Type 0} (signs : KeeperSigns K) (log : List Event) (old new : K) : Type 0 where
  pub none : AllFaults (past_of log)
  pub told_are : StillTold (signs.tells old) (signs.tells new)
  pub no_doubt : signs.doubt new ≡ None

-- The rows before the log are those that the keeper told as it came, if it tells any still; or there are none,
-- no boot could read the history, and what the keeper tells it told as it came. So rows that a first boot refused
-- are the keeper's own, since no row breaks no rule.
abbrev pub IsOpening : (List Row → Type 0) → (List Row → Type 0) → List Row → List Event → Type 0
IsOpening came now opening log = AreTold came now opening ⊎ ((opening ≡ []) × StillTold came now × AllFaults (past_of log))

-- The last boot that was begun didn't read the history: it couldn't, or the campaign ended as it was to begin.
abbrev pub IsUnread : Campaign → List Event → Type 0
IsUnread c log = (last_faulted (past_of log) ≡ true) ⊎ (boots (past_of log) < length c.plans)

-- The keeper has the rows of the log, and its doubt is the log's; or it was opened again by a last boot that
-- didn't read the history, and has the log's rows without or with the change in doubt; or no boot could read the
-- history, and the keeper is untouched. The rows before the log are its own. Each fault of the keeper that the
-- log tells was counted by it, and where the log tells none it counted none.
pub record KeeperStands {K : Type 0} (signs : KeeperSigns K) (c : Campaign) (log : List Event) (old new : K) : Type 0 where
  pub keeps : IsUntouched signs log old new
      ⊎ (HasRows signs new (rows c.basis (past_of log)) (doubt c.basis (past_of log))
      ⊎ (IsUnread c log × WasReopened signs new (rows c.basis (past_of log)) (doubt c.basis (past_of log))))
  pub opening_is : IsOpening (signs.tells old) (signs.tells new) c.basis.opening log
  pub counted : (keeper_faults (past_of log) + signs.faults old ≤ signs.faults new) ⊎ (2 ^ 64 - 1 ≤ signs.faults new)
  pub quiet : keeper_faults (past_of log) ≡ 0 → signs.faults new ≡ signs.faults old
  pub counts : signs.faults old ≤ signs.faults new

-- The shelves are as many, each with its files, and each counted each of its faults that the log tells: its
-- count rose by as many, or stands at its end.
pub record ShelvesStand (log : List Event) (old new : List ShelfTold) : Type 0 where
  pub stay : ShelvesStay old new
  pub counted : (place : ℕ) (was is : ShelfTold) → slice_get old place ≡ Some was → slice_get new place ≡ Some is → RoseBy (shelf_faults place (past_of log)) was.faults is.faults

-- The rows that a boot read are no valid history from this row on, and no boot before could read any; or
-- the keeper tells no rows, and a later boot read others than the log's.
abbrev pub IsBadHistory : {K : Type 0} → (K → List Row → Type 0) → ℕ → Basis → List Event → K → Type 0
IsBadHistory told entry basis log keeper =
    (AllFaults (past_of log) × BreaksAt entry basis.opening)
    ⊎ (IsHistory basis.opening × ((all : List Row) → told keeper all → ⊥) × ((loaded : List Row) × AreOthers entry loaded (rows basis (past_of log)) (doubt basis (past_of log))))

-- How many of the boots were run, by how the campaign ended: all, or fewer.
abbrev pub EndsAt : {K : Type 0} → (K → List Row → Type 0) → Ending → Campaign → List Event → K → ℕ → Type 0
EndsAt told Ending.Whole c log keeper count = count ≡ length c.plans
EndsAt told (Ending.BadHistory entry) c log keeper count = (count < length c.plans) × IsBadHistory told entry c.basis log keeper
EndsAt told Ending.NoMemory c log keeper count = count < length c.plans

-- A campaign was played: so many of its boots, each by its plan, with the scripts. `means` has those of each
-- client.
pub record WasPlayed {K : Type 0} (signs : KeeperSigns K) (means : ℕ → Means) (ran : Ran) (c : Campaign) (scripts : List (List (List Item))) (log : List Event) (boards : List BoardState) (old new : K) : Type 0 where
  pub true_log : IsTrueLog c log boards
  pub keeper : KeeperStands signs c log old new
  pub count : ℕ
  pub played : PlayedBoots ran.wanting c means scripts count log
  pub ends : EndsAt signs.tells ran.ending c log new count
