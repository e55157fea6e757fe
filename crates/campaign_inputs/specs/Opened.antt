-- What is said of a campaign that is opened from a source, and of the ways in which there is none.
use Rattle.std.specs.Prelude.{◌≡◌, ℕ, ◌<◌, ◌≤◌, List, length, max, Option, Ok, Err}
use Rattle.outer_traits.specs.Sources.{Came}
use Rattle.fw_facts.specs.declared.machine.MachineFacts.{MachineFacts}
use Rattle.plugin_order.specs.declared.sheet.PluginSheet.{PluginSheet}
use Rattle.plugin_order.specs.declared.arrangement.OrderFault.{OrderFault}
use Rattle.plugin_order.specs.declared.arrangement.OrderFault.TheVariants as faults
use Rattle.release_catalogue.specs.declared.place.Place.{Place}
use Rattle.release_catalogue.specs.declared.reason.Reason.{Reason}
use Rattle.update_log.specs.declared.facts.PluginVetoes.{PluginVetoes}
use Rattle.site_types.specs.declared.site.Site.{Site}
use Rattle.site_types.specs.declared.campaign.Campaign.{Campaign}
use Rattle.site_files.specs.declared.fault.SiteFault.TheVariants as told
use Rattle.campaign_inputs.specs.declared.opening.ClientLimit.{ClientLimit}
use Rattle.campaign_inputs.specs.declared.opening.ClientLimit.TheVariants as limits
use Rattle.campaign_inputs.specs.declared.opening.OpenStop.{OpenStop}
use Rattle.campaign_inputs.specs.declared.opening.OpenStop.TheVariants as stops
use Rattle.campaign_inputs.specs.declared.input.InputStop.{InputStop}
use Rattle.campaign_inputs.specs.declared.input.InputStop.TheVariants as inputs
use Rattle.campaign_inputs.specs.Inputs.{WasRead, document_max, stated}
use Rattle.campaign_inputs.specs.Limits.{CanBeRun}
use Rattle.campaign_inputs.specs.Settled.{AreAtFault, IsCampaignOf}

-- How many shelves a site asks for: one for each client, and one where there is none.
abbrev pub asked_for : Site → ℕ
asked_for site = max 1 (length site.features)

-- The limit allows that many.
abbrev pub Allows : ClientLimit → ℕ → Type 0
Allows limits.Any asked = Unit {0}
Allows (limits.Shelves shelves) asked = asked ≤ shelves

-- The limit is this number of shelves, and fewer than are asked for.
abbrev pub IsPassed : ClientLimit → ℕ → ℕ → Type 0
IsPassed limits.Any asked shelves = ⊥
IsPassed (limits.Shelves most) asked shelves = (shelves ≡ most) × (most < asked)

-- How a stop of the input, or a fault of the plugins, is told.
abbrev pub of_input : InputStop → OpenStop
of_input inputs.SourceFault = stops.SourceFault
of_input inputs.TooLong = stops.TooLong
of_input (inputs.Document place reason) = stops.Document place reason
of_input inputs.NoMemory = stops.NoMemory

abbrev pub of_order : OrderFault → OpenStop
of_order (faults.DuplicateName name) = stops.Plugins (faults.DuplicateName name)
of_order (faults.Cycle names) = stops.Plugins (faults.Cycle names)
of_order faults.NoMemory = stops.NoMemory

-- What a stop says of a site that was read: it asks for too many shelves, or the plugins can't be arranged.
abbrev pub StopsWith : ClientLimit → Site → List PluginSheet → OpenStop → Type 0
StopsWith limit site sheets (stops.TooManyClients asked shelves) = (asked ≡ asked_for site) × IsPassed limit asked shelves
StopsWith limit site sheets (stops.Plugins fault) = Allows limit (asked_for site) × AreAtFault sheets fault
StopsWith limit site sheets stops.NoMemory = Unit {0}
StopsWith limit site sheets stops.SourceFault = ⊥
StopsWith limit site sheets stops.TooLong = ⊥
StopsWith limit site sheets (stops.Document place reason) = ⊥

-- All of the input came, and states this site, whose campaign can be run.
pub record States (bytes : List ℕ) (left : Option (List ℕ)) (site : Site) : Type 0 where
  pub read : WasRead bytes left
  pub stated : stated bytes ≡ Ok site
  pub can_run : CanBeRun site

-- A campaign was opened: these bytes came and state a site; the limit allows its clients; and the campaign
-- is the site's, with the plugins that have these sheets, and these vetoes on a machine.
pub record IsOpened (limit : ClientLimit) (sheets : List PluginSheet) (vetoes : MachineFacts → List PluginVetoes) (old new : Option (List ℕ)) (campaign : Campaign) : Type 0 where
  pub bytes : List ℕ
  pub came : Came bytes old new
  pub site : Site
  pub states : States bytes new site
  pub allowed : Allows limit (asked_for site)
  pub settled : IsCampaignOf site sheets (vetoes site.machine) campaign

-- All of the input came, and its first fault is this one.
pub record IsNoDocument (bytes : List ℕ) (left : Option (List ℕ)) (place : Place) (reason : Reason) : Type 0 where
  pub read : WasRead bytes left
  pub stated : stated bytes ≡ Err (told.Document place reason)

-- The site that came asks for so many shelves, and there are so many, which are fewer.
pub record AsksTooMany (limit : ClientLimit) (asked shelves : ℕ) (bytes : List ℕ) (left : Option (List ℕ)) : Type 0 where
  pub site : Site
  pub states : States bytes left site
  pub asked_is : asked ≡ asked_for site
  pub passed : IsPassed limit asked shelves

-- The site that came asks for no more than there are, and the plugins can't be arranged.
pub record CantArrange (limit : ClientLimit) (sheets : List PluginSheet) (fault : OrderFault) (bytes : List ℕ) (left : Option (List ℕ)) : Type 0 where
  pub site : Site
  pub states : States bytes left site
  pub allowed : Allows limit (asked_for site)
  pub cause : AreAtFault sheets fault

-- What a stop says of the bytes that came, and of what the source has left.
abbrev pub StopsAt : ClientLimit → List PluginSheet → OpenStop → List ℕ → Option (List ℕ) → Type 0
StopsAt limit sheets stops.SourceFault bytes left = Unit {0}
StopsAt limit sheets stops.TooLong bytes left = document_max < length bytes
StopsAt limit sheets (stops.Document place reason) bytes left = IsNoDocument bytes left place reason
StopsAt limit sheets (stops.TooManyClients asked shelves) bytes left = AsksTooMany limit asked shelves bytes left
StopsAt limit sheets (stops.Plugins fault) bytes left = CantArrange limit sheets fault bytes left
StopsAt limit sheets stops.NoMemory bytes left = Unit {0}

-- These bytes came, and the stop says so of them.
pub record HasStopped (limit : ClientLimit) (sheets : List PluginSheet) (stop : OpenStop) (old new : Option (List ℕ)) : Type 0 where
  pub bytes : List ℕ
  pub came : Came bytes old new
  pub stops : StopsAt limit sheets stop bytes new
