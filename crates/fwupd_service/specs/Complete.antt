-- When the commands do all that they are for: nothing but what is named here keeps them from it.
use Rattle.std.specs.Prelude.{◌≡◌, ◌⊎◌, ◌≤◌, ◌<◌, ◌+◌, ◌-◌, ◌^◌, ℕ, false, List, ◌∷◌, ◌++◌, length, map, Option, Some, None, Ok}
use Rattle.fw_facts.specs.declared.machine.MachineFacts.{MachineFacts}
use Rattle.history_keeper.specs.declared.row.Row.{Row}
use Rattle.history_keeper.specs.Histories.{IsHistory}
use Rattle.history_keeper.specs.Signs.{KeeperSigns}
use Rattle.plugin_order.specs.declared.sheet.PluginSheet.{PluginSheet}
use Rattle.plugin_order.specs.Arranged.{CanBeArranged}
use Rattle.outer_traits.specs.Sinks.{Took}
use Rattle.outer_traits.specs.Sources.{AtEnd, Came}
use Rattle.release_catalogue.specs.Lookup.{Chosen}
use Rattle.update_log.specs.declared.answer.AskAnswer.{AskAnswer}
use Rattle.update_log.specs.declared.event.Event.{Event}
use Rattle.update_log.specs.declared.facts.PluginVetoes.{PluginVetoes}
use Rattle.update_log.specs.Legal.{BelowLimit, Legal}
use Rattle.update_log.specs.Pasts.{off, past_of}
use Rattle.update_log.specs.Known.{basis_of}
use Rattle.update_plans.specs.Following.{IsFollowed}
use Rattle.update_plans.specs.Plans.{release_at, request_of, scene}
use Rattle.update_plans.specs.declared.plan.PlanStep.{PlanStep}
use Rattle.daemon_core.specs.Reading.{AreTold}
use Rattle.daemon_core.specs.House.{shown_by}
use Rattle.client_plays.specs.Shelves.{means_for}
use Rattle.client_plays.specs.Tools.{ShelfTold}
use Rattle.site_types.specs.declared.campaign.Campaign.{Campaign}
use Rattle.site_types.specs.declared.site.Site.{Site}
use Rattle.site_making.specs.Made.{made_site}
use Rattle.campaign_inputs.specs.declared.opening.ClientLimit.{ClientLimit}
use Rattle.campaign_inputs.specs.declared.opening.ClientLimit.TheVariants as limits
use Rattle.campaign_inputs.specs.Inputs.{WasRead, document_max, stated}
use Rattle.campaign_inputs.specs.Opened.{Allows, AsksTooMany, IsNoDocument, asked_for}
use Rattle.campaign_inputs.specs.Settled.{IsCampaignOf}
use Rattle.command_outputs.specs.Printed.{ids_output}
use Rattle.document_commands.specs.Ends.{checked, remotes_told}
use Rattle.document_commands.specs.Explains.{first_of, printed_of}
use Rattle.campaign_plans.specs.FirstPlans.{first_log, first_steps}
use Rattle.campaign_plans.specs.Updating.{Plays}
use Rattle.command_outputs.specs.Summed.{summary}
use Rattle.report_text.specs.Report.{report}
use Rattle.run_status.specs.declared.status.Status.{Status}
use Rattle.run_status.specs.declared.status.Status.TheVariants as statuses
use Rattle.fwupd_service.specs.Campaigns.{campaign_over}
use Rattle.fwupd_service.specs.Commands.{Checked, Explained, Identified, RemotesTold}
use Rattle.fwupd_service.specs.Ends.{WentWhole}
use Rattle.fwupd_service.specs.Makes.{MakeEnds, own_shelves}
use Rattle.fwupd_service.specs.Plugged.{AreStarted, PluginWords, Plugins, plugins_with, work_of}
use Rattle.fwupd_service.specs.Tops.{Left, RunEnds}
use Rattle.fwupd_service.specs.Updates.{PlanEnds, UpdateEnds, planned_items, printed_plan}
use Rattle.fwupd_service.specs.Worlds.{World}

-- ---- the input

-- These bytes are all of the input and no longer than a document may be; they state a site, whose clients the limit
-- allows; and of that site this is so.
pub record GaveSite (limit : ClientLimit) (bytes : List ℕ) (left : Option (List ℕ)) (Done : Site → Type 0) : Type 0 where
  pub site : Site
  pub read : WasRead bytes left
  pub states : stated bytes ≡ Ok site
  pub allowed : Allows limit (asked_for site)
  pub done : Done site

-- These bytes gave no such site, and the status says why: they are longer than a document may be, or all of the input
-- and no document, or their site has more clients than the limit allows. Or the input failed, or memory was wanting.
abbrev pub GaveNone : ClientLimit → Status → List ℕ → Option (List ℕ) → Type 0
GaveNone limit statuses.TooLong bytes left = document_max < length bytes
GaveNone limit (statuses.Document place reason) bytes left = IsNoDocument bytes left place reason
GaveNone limit (statuses.TooManyClients asked shelves) bytes left = AsksTooMany limit asked shelves bytes left
GaveNone limit statuses.SourceFault bytes left = Unit {0}
GaveNone limit statuses.NoMemory bytes left = Unit {0}
GaveNone limit _ bytes left = ⊥

-- These bytes came from the input: they gave a site, of which this is so; or they gave none.
pub record InputGave (limit : ClientLimit) (status : Status) (old new : Option (List ℕ)) (Done : Site → Type 0) : Type 0 where
  pub bytes : List ℕ
  pub came : Came bytes old new
  pub gave : GaveSite limit bytes new Done ⊎ GaveNone limit status bytes new

-- Of a source that tells what it has left, no more came than it had, and all of that where it came to its end.
abbrev pub InputIsTold : Type 0
InputIsTold =
    (bytes all : List ℕ) (old new : Option (List ℕ)) → Came bytes old new → old ≡ Some all
    → (length bytes ≤ length all) × (AtEnd new → bytes ≡ all)

-- All was done, or else memory was wanting, or the output failed.
abbrev pub WorkDone : Type 0 → Status → Type 0
WorkDone Complete statuses.Done = Complete
WorkDone Complete statuses.NoMemory = Unit {0}
WorkDone Complete statuses.SinkFault = Unit {0}
WorkDone Complete _ = ⊥

-- ---- `run`

-- The history held: the rows that the keeper told as it came are a valid one, and it tells rows still, or else
-- those before the log are; and it failed at nothing: its count of faults, which isn't at its end, is as it was.
pub record HistoryHeld {K : Type 0} (signs : KeeperSigns K) (keeper : K) (left : Left K) : Type 0 where
  pub valid : IsHistory left.opening ⊎ (((all : List Row) → signs.tells keeper all → IsHistory all) × ((all : List Row) × signs.tells left.keeper all))
  pub no_fault : signs.faults left.keeper ≡ signs.faults keeper
  pub counting : signs.faults keeper < 2 ^ 64 - 1

-- The campaign of that site was played whole, over these shelves, by the plugins that were started: all its boots
-- were run, each script was played, as far as its boot didn't go off, and the text of its log was written whole.
pub record SiteWentWhole {K Q : Type 0} (shelves : List ShelfTold) (plugins : Plugins Q) (site : Site) (left : Left K) (text : Campaign → List ℕ) (before after : Option (List ℕ)) : Type 0 where
  pub campaign : Campaign
  pub settled : IsCampaignOf site plugins.sheets (plugins.vetoes site.machine) campaign
  pub started : List Q
  pub started_are : AreStarted plugins.words plugins.sheets campaign.facts started
  pub whole : WentWhole (means_for (work_of plugins.words started) shelves) (campaign_over campaign left.opening) campaign.scripts left.log (text campaign) before after

-- All was done, or else memory was wanting, or the output failed; or, where the keeper tells no rows, a later boot read
-- others than the log's.
abbrev pub RunDone : {K : Type 0} → (K → List Row → Type 0) → K → Type 0 → Status → Type 0
RunDone told keeper Complete statuses.Done = Complete
RunDone told keeper Complete statuses.NoMemory = Unit {0}
RunDone told keeper Complete statuses.SinkFault = Unit {0}
RunDone told keeper Complete (statuses.BadHistory entry) = (all : List Row) → told keeper all → ⊥
RunDone told keeper Complete _ = ⊥

-- `run` is complete: whatever it came to, where the plugins can be arranged and the history held, its input gave no
-- site, or the campaign of that site was played whole and its report was written, but for those causes.
abbrev pub RunCompletes : {K Q : Type 0} → KeeperSigns K → PluginWords Q → Type 0
RunCompletes {K = K} signs words =
    (sheets : List PluginSheet) (vetoes : MachineFacts → List PluginVetoes) (status : Status) (keeper : K) (left : Left K) (before after : World)
    → RunEnds signs (plugins_with sheets vetoes words) status keeper left before after
    → CanBeArranged sheets → HistoryHeld signs keeper left
    → InputGave (limits.Shelves (length before.shelves)) status before.unread after.unread
    (λ site. RunDone signs.tells left.keeper (SiteWentWhole before.shelves (plugins_with sheets vetoes words) site left (λ campaign. report (basis_of campaign.facts left.opening) left.log) before.written after.written) status)

-- ---- `plan`

-- The plan of that site's first boot was printed whole.
pub record SitePlanned {K : Type 0} (sheets : List PluginSheet) (vetoes : MachineFacts → List PluginVetoes) (tag : List ℕ) (site : Site) (left : Left K) (before after : Option (List ℕ)) : Type 0 where
  pub campaign : Campaign
  pub settled : IsCampaignOf site sheets (vetoes site.machine) campaign
  pub printed : Took (printed_plan campaign left.opening tag) before after

-- `plan` is complete: where the plugins can be arranged and the history held, its input gave no site, or the plan of
-- that site's first boot was printed, but for those causes.
abbrev pub PlanCompletes : {K : Type 0} → KeeperSigns K → Type 0
PlanCompletes {K = K} signs =
    (sheets : List PluginSheet) (vetoes : MachineFacts → List PluginVetoes) (tag : List ℕ) (status : Status) (keeper : K) (left : Left K) (before after : World)
    → PlanEnds signs sheets vetoes tag status keeper left before after
    → CanBeArranged sheets → HistoryHeld signs keeper left
    → InputGave (limits.Shelves (length before.shelves)) status before.unread after.unread
    (λ site. WorkDone (SitePlanned sheets vetoes tag site left before.written after.written) status)

-- ---- `update`

-- The plan of that site's first boot, over the rows that the keeper told, was played whole: the boot was run, the
-- script of the planned installs was played, as far as the boot didn't go off, and the report was written whole.
pub record SiteUpdated {K Q : Type 0} (told : K → List Row → Type 0) (shelves : List ShelfTold) (plugins : Plugins Q) (tag : List ℕ) (site : Site) (keeper : K) (left : Left K) (before after : Option (List ℕ)) : Type 0 where
  pub campaign : Campaign
  pub settled : IsCampaignOf site plugins.sheets (plugins.vetoes site.machine) campaign
  pub started : List Q
  pub started_are : AreStarted plugins.words plugins.sheets campaign.facts started
  pub rows : List Row
  pub told_are : AreTold (told keeper) (told left.keeper) rows
  pub made : Campaign
  pub plays : Plays (planned_items campaign rows tag) campaign made
  pub whole : WentWhole (means_for (work_of plugins.words started) shelves) (campaign_over made left.opening) made.scripts left.log (report (basis_of made.facts left.opening) left.log) before after

-- `update` is complete: where the plugins can be arranged and the history held, its input gave no site, or the plan of
-- that site's first boot was played whole and its report was written, but for the causes of `run`.
abbrev pub UpdateCompletes : {K Q : Type 0} → KeeperSigns K → PluginWords Q → Type 0
UpdateCompletes {K = K} signs words =
    (sheets : List PluginSheet) (vetoes : MachineFacts → List PluginVetoes) (tag : List ℕ) (status : Status) (keeper : K) (left : Left K) (before after : World)
    → UpdateEnds signs (plugins_with sheets vetoes words) tag status keeper left before after
    → CanBeArranged sheets → HistoryHeld signs keeper left
    → InputGave (limits.Shelves (length before.shelves)) status before.unread after.unread
    (λ site. RunDone signs.tells left.keeper (SiteUpdated signs.tells before.shelves (plugins_with sheets vetoes words) tag site keeper left before.written after.written) status)

-- The answer to an ask is that it holds blocks.
abbrev pub IsHeld : AskAnswer → Type 0
IsHeld (AskAnswer.Hold blocks release) = Unit {0}
IsHeld (AskAnswer.Kept entry state) = ⊥
IsHeld (AskAnswer.Refused refusal) = ⊥

-- `update` does what `plan` told, where its plays finish well: while its log is the first boot and such plays of the
-- first planned installs, each behind the other, after which their devices show what was planned, the ask of the next
-- one is accepted. The daemon has nothing to do then as the boot begins, and the boot isn't at its limit.
abbrev pub UpdateAccepts : Type 0
UpdateAccepts =
    (campaign : Campaign) (opening : List Row) (tag : List ℕ) (done : List PlanStep) (step : PlanStep) (more : List PlanStep) (chosen : Chosen) (log past now : List Event) (answer : AskAnswer)
    → Legal (campaign_over campaign opening) log
    → past_of log ≡ past ++ Event.Ask 1 (request_of (scene (basis_of campaign.facts opening) 1 tag) (length done + 1) step chosen) None answer ∷ now
    → release_at (scene (basis_of campaign.facts opening) 1 tag) step.release ≡ Some chosen
    → first_steps campaign.facts (map shown_by campaign.boards.items) campaign.boots opening tag ≡ done ++ step ∷ more
    → IsHistory opening
    → IsFollowed (scene (basis_of campaign.facts opening) 1 tag) 1 done
    (first_log campaign.boots (map shown_by campaign.boards.items)) (first_log campaign.boots (map shown_by campaign.boards.items)) now
    → off now ≡ false → BelowLimit now → IsHeld answer

-- ---- `make`

-- `make` is complete: where the plugins can be arranged, the campaign of the generated site was played whole
-- and its summary was written, but for those causes. Its history is in its own memory, and holds.
abbrev pub MakeCompletes : {Q : Type 0} → Type 0 → PluginWords Q → Type 0
MakeCompletes K words =
    (boards clients : ℕ) (sheets : List PluginSheet) (vetoes : MachineFacts → List PluginVetoes) (status : Status) (keeper : K) (left : Left K) (before after : Option (List ℕ))
    → MakeEnds boards clients (plugins_with sheets vetoes words) status keeper left before after → CanBeArranged sheets
    → WorkDone (SiteWentWhole (own_shelves clients) (plugins_with sheets vetoes words) (made_site boards clients) left (λ campaign. summary boards clients left.log) before after) status

-- ---- `check`, `remotes`, `explain` and `ids`

-- `check` is complete: its input gave no site, or how many entries that site's sections have was printed, but for those
-- causes.
abbrev pub CheckCompletes : Type 0 → Type 0
CheckCompletes K =
    (status : Status) (keeper : K) (left : Left K) (before after : World)
    → Checked status keeper left before after
    → InputGave limits.Any status before.unread after.unread (λ site. WorkDone (Took (checked site) before.written after.written) status)

-- `remotes` is complete: its input gave no site, or what that site's remotes have was printed, but for those causes.
abbrev pub RemotesCompletes : Type 0 → Type 0
RemotesCompletes K =
    (status : Status) (keeper : K) (left : Left K) (before after : World)
    → RemotesTold status keeper left before after
    → InputGave limits.Any status before.unread after.unread (λ site. WorkDone (Took (remotes_told site) before.written after.written) status)

-- What is explained of an install of this version at this port of that site was printed whole.
pub record SiteExplained (sheets : List PluginSheet) (vetoes : MachineFacts → List PluginVetoes) (port version : List ℕ) (site : Site) (before after : Option (List ℕ)) : Type 0 where
  pub campaign : Campaign
  pub settled : IsCampaignOf site sheets (vetoes site.machine) campaign
  pub printed : Took (printed_of campaign.facts (map first_of site.boards) port version) before after

-- `explain` is complete: where the plugins can be arranged, its input gave no site, or that was printed of it, but for
-- those causes.
abbrev pub ExplainCompletes : Type 0 → Type 0
ExplainCompletes K =
    (sheets : List PluginSheet) (vetoes : MachineFacts → List PluginVetoes) (port version : List ℕ) (status : Status) (keeper : K) (left : Left K) (before after : World)
    → Explained sheets vetoes port version status keeper left before after → CanBeArranged sheets
    → InputGave limits.Any status before.unread after.unread (λ site. WorkDone (SiteExplained sheets vetoes port version site before.written after.written) status)

-- `ids` is complete: a line for each text was printed, but for those causes.
abbrev pub IdsCompletes : Type 0 → Type 0
IdsCompletes K =
    (texts : List (List ℕ)) (status : Status) (keeper : K) (left : Left K) (before after : World)
    → Identified texts status keeper left before after → WorkDone (Took (ids_output texts) before.written after.written) status
