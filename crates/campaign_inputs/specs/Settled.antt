-- The campaign of a site, over the plugins as they were handed in.
use Rattle.std.specs.Prelude.{◌≡◌, ℕ, List, map}
use Rattle.plugin_order.specs.declared.sheet.PluginSheet.{PluginSheet}
use Rattle.plugin_order.specs.declared.arrangement.Arrangement.{Arrangement}
use Rattle.plugin_order.specs.declared.arrangement.OrderFault.{OrderFault}
use Rattle.plugin_order.specs.declared.arrangement.OrderFault.TheVariants as faults
use Rattle.plugin_order.specs.Arranged.{CanBeArranged, HasCause, IsArrangement}
use Rattle.plugin_order.specs.Sheets.{name_at}
use Rattle.campaign_inputs.specs.Chosen.{AreAt}
use Rattle.site_making.specs.Priorities.{Adds, priorities_of, priority_of, running}
use Rattle.site_making.specs.Settled.{IsOfSite, new_board, settled_sheets, start_of}
use Rattle.site_types.specs.declared.site.Site.{Site}
use Rattle.site_types.specs.declared.campaign.Campaign.{Campaign}
use Rattle.update_log.specs.declared.facts.PluginVetoes.{PluginVetoes}

-- What a name adds to the priority of its boards, under an arrangement of all plugins.
abbrev pub added_by : List PluginSheet → Arrangement → List ℕ → ℕ
added_by sheets arrangement = priority_of (map (name_at sheets) (running arrangement)) (priorities_of arrangement)

-- The campaign of a site, where plugins with these sheets were handed in, in that order, which tell these
-- vetoes of the site's machine beforehand. They are arranged; the enabled ones, in the order of the
-- arrangement, give the vetoes; a sheet is the one after quirks with what its plugin adds; the boards are
-- new; and all else is the site's.
pub record IsCampaignOf (site : Site) (sheets : List PluginSheet) (vetoes : List PluginVetoes) (campaign : Campaign) : Type 0 where
  pub arrangement : Arrangement
  pub possible : CanBeArranged sheets
  pub arranged : IsArrangement sheets arrangement
  pub of_site : IsOfSite site campaign
  pub facts_sheets : campaign.facts.sheets ≡ settled_sheets site (added_by sheets arrangement)
  pub adds : (name : List ℕ) → Adds sheets arrangement.order name (added_by sheets arrangement name)
  pub facts_vetoes : AreAt vetoes (running arrangement) campaign.facts.vetoes
  pub boards : map start_of campaign.boards.items ≡ map new_board site.boards

-- Of plugins with these sheets those run that have the sheets `started`: the enabled ones of their arrangement, in
-- its order.
pub record AreRunning (sheets started : List PluginSheet) : Type 0 where
  pub arrangement : Arrangement
  pub arranged : IsArrangement sheets arrangement
  pub started_are : AreAt sheets (running arrangement) started

-- Plugins with these sheets can't be arranged, for this reason: a repeated name or a cycle. Want of memory
-- is no such reason.
abbrev pub AreAtFault : List PluginSheet → OrderFault → Type 0
AreAtFault sheets (faults.DuplicateName name) = HasCause sheets (faults.DuplicateName name)
AreAtFault sheets (faults.Cycle shown) = HasCause sheets (faults.Cycle shown)
AreAtFault sheets faults.NoMemory = ⊥
