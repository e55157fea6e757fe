-- What a run of the program comes to, by its command.
use Rattle.std.specs.Prelude.{◌≡◌, ◌⊎◌, ℕ, List, [], length, map, Option, Some, None}
use Rattle.emulated_boards.specs.Boards.{BoardState}
use Rattle.history_keeper.specs.declared.row.Row.{Row}
use Rattle.history_keeper.specs.Signs.{KeeperSigns}
use Rattle.plugin_order.specs.declared.sheet.PluginSheet.{PluginSheet}
use Rattle.plugin_trait.specs.Steps.{PluginSteps}
use Rattle.update_log.specs.declared.event.Event.{Event}
use Rattle.client_plays.specs.Shelves.{means_for}
use Rattle.site_types.specs.declared.campaign.Campaign.{Campaign}
use Rattle.campaign_inputs.specs.declared.opening.ClientLimit.TheVariants as limits
use Rattle.campaign_inputs.specs.declared.opening.OpenStop.{OpenStop}
use Rattle.campaign_inputs.specs.declared.opening.OpenStop.TheVariants as stops
use Rattle.campaign_inputs.specs.Opened.{HasStopped, IsOpened}
use Rattle.report_text.specs.Report.{report}
use Rattle.run_status.specs.declared.status.Status.{Status}
use Rattle.run_status.specs.declared.status.Status.TheVariants as statuses
use Rattle.fwupd_service.specs.Campaigns.{IsTrueLog, KeeperStands, ShelvesStand, campaign_over}
use Rattle.fwupd_service.specs.Ends.{CampaignEnds}
use Rattle.fwupd_service.specs.Plugged.{AreStarted, Plugins, work_of}
use Rattle.fwupd_service.specs.Worlds.{Setting, World, setting_in}
use Rattle.update_log.specs.Known.{basis_of}

-- What a run leaves: its log, the rows before it, the boards where a campaign began, and the keeper.
pub record Left (K : Type 0) : Type 0 where
  pub log : List Event
  pub opening : List Row
  pub boards : Option (List BoardState)
  pub keeper : K

-- What a campaign left that was played.
abbrev pub IsLeft : {K : Type 0} → List Event → List Row → List BoardState → K → Left K → Type 0
IsLeft log opening boards keeper left = left ≡ record { log = log; opening = opening; boards = Some boards; keeper = keeper }

-- No campaign began: nothing happened, the keeper is as it came, and nothing was written.
pub record NothingBegan {K : Type 0} (keeper : K) (left : Left K) (before after : Option (List ℕ)) : Type 0 where
  pub log : left.log ≡ []
  pub opening : left.opening ≡ []
  pub boards : left.boards ≡ None
  pub keeper_is : left.keeper ≡ keeper
  pub nothing : after ≡ before

-- How a status tells that there is no campaign.
abbrev pub stop_status : OpenStop → Status
stop_status stops.SourceFault = statuses.SourceFault
stop_status stops.TooLong = statuses.TooLong
stop_status (stops.Document place reason) = statuses.Document place reason
stop_status (stops.TooManyClients asked shelves) = statuses.TooManyClients asked shelves
stop_status (stops.Plugins fault) = statuses.Plugins fault
stop_status stops.NoMemory = statuses.NoMemory

-- A campaign was played: what is true of its log and its boards, how the keeper and the shelves stand to it, and what the
-- status says of how it ended and of what was written of it. Each board has the faults planned that the campaign's board
-- of its number has. The plugins, whose work is what their steps give, made the steps of the entries, each those of its
-- own boards.
pub record CampaignTold {K : Type 0} (signs : KeeperSigns K) (work : ℕ → PluginSteps) (status : Status) (campaign : Campaign) (keeper : K) (left : Left K) (text : List ℕ) (before after : Setting) : Type 0 where
  pub boards : List BoardState
  pub boards_are : left.boards ≡ Some boards
  pub true_log : IsTrueLog (campaign_over campaign left.opening) left.log boards
  pub board_plans : map (λ b. b.plan) boards ≡ map (λ b. b.plan) campaign.boards.items
  pub keeper_stands : KeeperStands signs (campaign_over campaign left.opening) left.log keeper left.keeper
  pub shelves_stand : ShelvesStand left.log before.shelves after.shelves
  pub ends : CampaignEnds signs.tells (means_for work before.shelves) status (campaign_over campaign left.opening) campaign.scripts left.log left.keeper text before.written after.written

-- A campaign could begin: it was played, unless there was no memory for its house.
abbrev pub CampaignWent : {K : Type 0} → KeeperSigns K → (ℕ → PluginSteps) → Status → Campaign → K → Left K → List ℕ → Setting → Setting → Type 0
CampaignWent signs work status campaign keeper left text before after =
    CampaignTold signs work status campaign keeper left text before after
    ⊎ ((status ≡ statuses.NoMemory) × NothingBegan keeper left before.written after.written)

-- `run`: there is no campaign, for a cause that the input, the shelves or the plugins show, and that the
-- status names; or the campaign is that of the site which the input states, each client fetches from its own
-- shelf, the plugins that were started make the steps, and the output is the report.
pub record RunStopped {K : Type 0} (sheets : List PluginSheet) (status : Status) (keeper : K) (left : Left K) (before after : World) : Type 0 where
  pub stop : OpenStop
  pub status_is : status ≡ stop_status stop
  pub stopped : HasStopped (limits.Shelves (length before.shelves)) sheets stop before.unread after.unread
  pub nothing : NothingBegan keeper left before.written after.written

pub record RunWent {K Q : Type 0} (signs : KeeperSigns K) (plugins : Plugins Q) (status : Status) (keeper : K) (left : Left K) (before after : World) : Type 0 where
  pub campaign : Campaign
  pub opened : IsOpened (limits.Shelves (length before.shelves)) plugins.sheets plugins.vetoes before.unread after.unread campaign
  pub started : List Q
  pub started_are : AreStarted plugins.words plugins.sheets campaign.facts started
  pub went : CampaignWent signs (work_of plugins.words started) status campaign keeper left (report (basis_of campaign.facts left.opening) left.log) (setting_in before) (setting_in after)

abbrev pub RunEnds : {K Q : Type 0} → KeeperSigns K → Plugins Q → Status → K → Left K → World → World → Type 0
RunEnds signs plugins status keeper left before after =
    RunStopped plugins.sheets status keeper left before after
    ⊎ RunWent signs plugins status keeper left before after
