-- What `plan` and `update` come to.
use Rattle.std.specs.Prelude.{◌≡◌, ◌⊎◌, ℕ, List, [], length, map, Option, Some, None}
use Rattle.fw_facts.specs.declared.machine.MachineFacts.{MachineFacts}
use Rattle.history_keeper.specs.declared.row.Row.{Row}
use Rattle.history_keeper.specs.Signs.{KeeperSigns}
use Rattle.plugin_order.specs.declared.sheet.PluginSheet.{PluginSheet}
use Rattle.plugin_trait.specs.Steps.{PluginSteps}
use Rattle.update_log.specs.declared.facts.PluginVetoes.{PluginVetoes}
use Rattle.outer_traits.specs.Sinks.{Took, TookFront}
use Rattle.daemon_core.specs.House.{shown_by}
use Rattle.client_scripts.specs.declared.item.Item.{Item}
use Rattle.site_types.specs.declared.campaign.Campaign.{Campaign}
use Rattle.campaign_inputs.specs.declared.opening.ClientLimit.TheVariants as limits
use Rattle.campaign_inputs.specs.Opened.{IsOpened}
use Rattle.report_text.specs.Report.{report}
use Rattle.update_plans.specs.Plans.{scene}
use Rattle.campaign_plans.specs.FirstPlans.{first_steps}
use Rattle.campaign_plans.specs.Printed.{plan_output}
use Rattle.campaign_plans.specs.Updating.{Plays, installs_from}
use Rattle.run_status.specs.declared.status.Status.{Status}
use Rattle.run_status.specs.declared.status.Status.TheVariants as statuses
use Rattle.fwupd_service.specs.declared.loading.LoadStop.{LoadStop}
use Rattle.fwupd_service.specs.Loads.{WasLoaded, load_status}
use Rattle.fwupd_service.specs.Plugged.{AreStarted, Plugins, work_of}
use Rattle.fwupd_service.specs.Tops.{CampaignWent, Left, RunStopped}
use Rattle.fwupd_service.specs.Worlds.{Setting, World, setting_in}
use Rattle.update_log.specs.Known.{basis_of}

-- What a text was written under a status: all of it, a front of it, or nothing.
abbrev pub WasPrinted : List ℕ → Status → Option (List ℕ) → Option (List ℕ) → Type 0
WasPrinted text statuses.Done before after = Took text before after
WasPrinted text statuses.SinkFault before after = TookFront text before after
WasPrinted text statuses.NoMemory before after = after ≡ before
WasPrinted text _ before after = ⊥

-- The plan of a campaign's first boot, as `plan` prints it, and its installs.
abbrev pub printed_plan : Campaign → List Row → List ℕ → List ℕ
printed_plan campaign rows tag = plan_output campaign.facts (map shown_by campaign.boards.items) campaign.boots rows tag

abbrev pub planned_items : Campaign → List Row → List ℕ → List Item
planned_items campaign rows tag =
    installs_from (scene (basis_of campaign.facts rows) 1 tag) 1 (first_steps campaign.facts (map shown_by campaign.boards.items) campaign.boots rows tag)

-- The history was loaded, and nothing began: nothing happened, and the rows before are those that the load gave.
pub record OnlyLoaded {K : Type 0} (signs : KeeperSigns K) (stop : Option LoadStop) (keeper : K) (left : Left K) : Type 0 where
  pub log : left.log ≡ []
  pub boards : left.boards ≡ None
  pub loaded : WasLoaded signs stop left.opening keeper left.keeper

-- Nothing is planned over what the load gave, and nothing was written.
pub record NotPlanned {K : Type 0} (signs : KeeperSigns K) (status : Status) (keeper : K) (left : Left K) (before after : Option (List ℕ)) : Type 0 where
  pub stop : LoadStop
  pub status_is : status ≡ load_status stop
  pub only : OnlyLoaded signs (Some stop) keeper left
  pub nothing : after ≡ before

-- ---- `plan`

-- The plan over the rows of the history was printed.
pub record PlanPrinted {K : Type 0} (signs : KeeperSigns K) (tag : List ℕ) (campaign : Campaign) (status : Status) (keeper : K) (left : Left K) (before after : Option (List ℕ)) : Type 0 where
  pub only : OnlyLoaded signs None keeper left
  pub printed : WasPrinted (printed_plan campaign left.opening tag) status before after

abbrev pub PlanGoes : {K : Type 0} → KeeperSigns K → List ℕ → Campaign → Status → K → Left K → Option (List ℕ) → Option (List ℕ) → Type 0
PlanGoes signs tag campaign status keeper left before after =
    NotPlanned signs status keeper left before after
    ⊎ PlanPrinted signs tag campaign status keeper left before after

-- The campaign is that of the site which the input states.
pub record PlanWent {K : Type 0} (signs : KeeperSigns K) (sheets : List PluginSheet) (vetoes : MachineFacts → List PluginVetoes) (tag : List ℕ) (status : Status) (keeper : K) (left : Left K) (before after : World) : Type 0 where
  pub campaign : Campaign
  pub opened : IsOpened (limits.Shelves (length before.shelves)) sheets vetoes before.unread after.unread campaign
  pub goes : PlanGoes signs tag campaign status keeper left before.written after.written

-- `plan`: there is no campaign, as under `run`; or its plan is told.
abbrev pub PlanEnds : {K : Type 0} → KeeperSigns K → List PluginSheet → (MachineFacts → List PluginVetoes) → List ℕ → Status → K → Left K → World → World → Type 0
PlanEnds signs sheets vetoes tag status keeper left before after =
    RunStopped sheets status keeper left before after
    ⊎ PlanWent signs sheets vetoes tag status keeper left before after

-- ---- `update`

-- The installs that are planned over the rows of the history are the one script of the first boot, and that
-- campaign was played over the keeper as the load left it, by the plugins that were started.
pub record PlanPlayed {K : Type 0} (signs : KeeperSigns K) (work : ℕ → PluginSteps) (tag : List ℕ) (campaign : Campaign) (status : Status) (keeper : K) (left : Left K) (before after : Setting) : Type 0 where
  pub rows : List Row
  pub middle : K
  pub loaded : WasLoaded signs None rows keeper middle
  pub made : Campaign
  pub plays : Plays (planned_items campaign rows tag) campaign made
  pub went : CampaignWent signs work status made middle left (report (basis_of made.facts left.opening) left.log) before after

-- There was no memory for the plan.
pub record PlanWanted {K : Type 0} (signs : KeeperSigns K) (status : Status) (keeper : K) (left : Left K) (before after : Option (List ℕ)) : Type 0 where
  pub status_is : status ≡ statuses.NoMemory
  pub only : OnlyLoaded signs None keeper left
  pub nothing : after ≡ before

abbrev pub UpdateGoes : {K : Type 0} → KeeperSigns K → (ℕ → PluginSteps) → List ℕ → Campaign → Status → K → Left K → Setting → Setting → Type 0
UpdateGoes signs work tag campaign status keeper left before after =
    NotPlanned signs status keeper left before.written after.written
    ⊎ (PlanWanted signs status keeper left before.written after.written
    ⊎ PlanPlayed signs work tag campaign status keeper left before after)

-- The campaign is that of the site which the input states.
pub record UpdateWent {K Q : Type 0} (signs : KeeperSigns K) (plugins : Plugins Q) (tag : List ℕ) (status : Status) (keeper : K) (left : Left K) (before after : World) : Type 0 where
  pub campaign : Campaign
  pub opened : IsOpened (limits.Shelves (length before.shelves)) plugins.sheets plugins.vetoes before.unread after.unread campaign
  pub started : List Q
  pub started_are : AreStarted plugins.words plugins.sheets campaign.facts started
  pub goes : UpdateGoes signs (work_of plugins.words started) tag campaign status keeper left (setting_in before) (setting_in after)

-- `update`: there is no campaign, as under `run`; or its plan is played.
abbrev pub UpdateEnds : {K Q : Type 0} → KeeperSigns K → Plugins Q → List ℕ → Status → K → Left K → World → World → Type 0
UpdateEnds signs plugins tag status keeper left before after =
    RunStopped plugins.sheets status keeper left before after
    ⊎ UpdateWent signs plugins tag status keeper left before after
