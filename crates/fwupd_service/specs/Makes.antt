-- What `make` comes to.
use Rattle.std.specs.Prelude.{◌≡◌, ◌⊎◌, ℕ, false, List, [], ◌∷◌, replicate, Option, Some, None}
use Rattle.history_keeper.specs.declared.row.Row.{Row}
use Rattle.history_keeper.specs.Signs.{KeeperSigns}
use Rattle.plugin_order.specs.declared.sheet.PluginSheet.{PluginSheet}
use Rattle.plugin_trait.specs.Steps.{PluginSteps}
use Rattle.plugin_order.specs.declared.arrangement.OrderFault.{OrderFault}
use Rattle.plugin_order.specs.declared.arrangement.OrderFault.TheVariants as faults
use Rattle.plugin_order.specs.Arranged.{HasCause}
use Rattle.sha2.specs.Sha256.{sha256}
use Rattle.outer_traits.specs.Plans.{MemoryFiles, fresh}
use Rattle.client_plays.specs.Tools.{ShelfTold}
use Rattle.site_types.specs.declared.campaign.Campaign.{Campaign}
use Rattle.site_making.specs.Made.{made_site, new_payload}
use Rattle.campaign_inputs.specs.Settled.{IsCampaignOf}
use Rattle.command_outputs.specs.Summed.{summary}
use Rattle.run_status.specs.declared.status.Status.{Status}
use Rattle.run_status.specs.declared.status.Status.TheVariants as statuses
use Rattle.fwupd_service.specs.Plugged.{AreStarted, Plugins, work_of}
use Rattle.fwupd_service.specs.Telling.{any_fault}
use Rattle.fwupd_service.specs.Tops.{CampaignTold, Left, NothingBegan}

-- How a status tells that plugins can't be arranged.
abbrev pub order_status : OrderFault → Status
order_status (faults.DuplicateName name) = statuses.Plugins (faults.DuplicateName name)
order_status (faults.Cycle names) = statuses.Plugins (faults.Cycle names)
order_status faults.NoMemory = statuses.NoMemory

-- Each client has a shelf of its own, with the one payload alone, under its digest.
abbrev pub own_files : List (List ℕ × List ℕ)
own_files = (sha256 new_payload, new_payload) ∷ []

abbrev pub own_memory : MemoryFiles
own_memory = record { files = own_files; plan = fresh [] }

abbrev pub own_shelf : ShelfTold
own_shelf = record { files = Some own_files; faults = 0 }

abbrev pub own_shelves : ℕ → List ShelfTold
own_shelves clients = replicate clients own_shelf

-- A keeper that is its rows tells them, is in no doubt and counts no fault.
abbrev pub own_signs : KeeperSigns (List Row)
own_signs = record { tells = λ rows all. rows ≡ all; doubt = λ _. None; faults = λ _. 0 }

-- The status doesn't blame the history: no keeper was at fault, and no boot read a bad history.
abbrev pub BlamesNoHistory : Status → Type 0
BlamesNoHistory statuses.KeeperFault = ⊥
BlamesNoHistory (statuses.BadHistory entry) = ⊥
BlamesNoHistory _ = Unit {0}

-- The generated campaign was played over a keeper of its own, which has no rows at first, and over shelves of its own;
-- its output is the summary. So there are no rows before the log, it tells no fault of a keeper, and the status blames no
-- history. `own` is the rows of that keeper afterwards, and `kept` what is known of those shelves. The keeper that came is
-- as it was.
pub record MadeWent {K : Type 0} (boards clients : ℕ) (work : ℕ → PluginSteps) (status : Status) (campaign : Campaign) (keeper : K) (left : Left K) (before after : Option (List ℕ)) : Type 0 where
  pub own : List Row
  pub kept : List ShelfTold
  pub keeper_is : left.keeper ≡ keeper
  pub no_rows : left.opening ≡ []
  pub no_fault : any_fault left.log ≡ false
  pub no_blame : BlamesNoHistory status
  pub told : CampaignTold own_signs work status campaign []
      (record { log = left.log; opening = left.opening; boards = left.boards; keeper = own }) (summary boards clients left.log)
      (record { shelves = own_shelves clients; written = before }) (record { shelves = kept; written = after })

abbrev pub MadeOrNothing : {K : Type 0} → ℕ → ℕ → (ℕ → PluginSteps) → Status → Campaign → K → Left K → Option (List ℕ) → Option (List ℕ) → Type 0
MadeOrNothing boards clients work status campaign keeper left before after =
    MadeWent boards clients work status campaign keeper left before after
    ⊎ ((status ≡ statuses.NoMemory) × NothingBegan keeper left before after)

-- The plugins can't be arranged, or there was no memory to do so.
pub record MakeStopped {K : Type 0} (sheets : List PluginSheet) (status : Status) (keeper : K) (left : Left K) (before after : Option (List ℕ)) : Type 0 where
  pub fault : OrderFault
  pub status_is : status ≡ order_status fault
  pub cause : HasCause sheets fault
  pub nothing : NothingBegan keeper left before after

-- The campaign is that of the generated site, and the plugins that were started make the steps.
pub record MakeBegan {K Q : Type 0} (boards clients : ℕ) (plugins : Plugins Q) (status : Status) (keeper : K) (left : Left K) (before after : Option (List ℕ)) : Type 0 where
  pub campaign : Campaign
  pub settled : IsCampaignOf (made_site boards clients) plugins.sheets (plugins.vetoes (made_site boards clients).machine) campaign
  pub started : List Q
  pub started_are : AreStarted plugins.words plugins.sheets campaign.facts started
  pub went : MadeOrNothing boards clients (work_of plugins.words started) status campaign keeper left before after

abbrev pub MakeEnds : {K Q : Type 0} → ℕ → ℕ → Plugins Q → Status → K → Left K → Option (List ℕ) → Option (List ℕ) → Type 0
MakeEnds boards clients plugins status keeper left before after =
    MakeStopped plugins.sheets status keeper left before after
    ⊎ MakeBegan boards clients plugins status keeper left before after
