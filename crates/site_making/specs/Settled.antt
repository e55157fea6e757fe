-- The campaign that is made of a site.
use Rattle.std.specs.Prelude.{◌≡◌, ℕ, ◌+◌, List, [], map}
use Rattle.emulated_boards.specs.declared.fault.PlannedFault.{PlannedFault}
use Rattle.emulated_boards.specs.declared.mark.Mark.{Mark}
use Rattle.emulated_boards.specs.declared.condition.Condition.{Condition}
use Rattle.emulated_boards.specs.Boards.{BoardState}
use Rattle.emulated_boards.specs.Conditions.{fresh}
use Rattle.emulated_boards.specs.Images.{image_of}
use Rattle.fw_facts.specs.declared.machine.VetoRule.{VetoRule}
use Rattle.fw_facts.specs.declared.sheet.Sheet.{Sheet}
use Rattle.plugin_order.specs.declared.sheet.PluginSheet.{PluginSheet}
use Rattle.quirk_files.specs.declared.quirk.Quirk.{Quirk}
use Rattle.quirk_files.specs.Sheets.{sheet_after}
use Rattle.update_log.specs.declared.facts.PluginVetoes.{PluginVetoes}
use Rattle.site_types.specs.declared.site.Site.{Site}
use Rattle.site_types.specs.declared.site.SiteBoard.{SiteBoard}
use Rattle.site_types.specs.declared.campaign.Campaign.{Campaign}

-- ---- sheets

-- a sheet with more priority
abbrev pub raised : ℕ → Sheet → Sheet
raised more sheet = record sheet { priority = sheet.priority + more }

-- a sheet once its quirks are applied and what its plugin adds is known: the plugin is the one that the
-- quirks leave
abbrev pub settled_sheet : List Quirk → (List ℕ → ℕ) → Sheet → Sheet
settled_sheet quirks adds sheet = raised (adds (sheet_after sheet quirks).plugin) (sheet_after sheet quirks)

-- the sheets of a campaign, in the order of the site's boards
abbrev pub settled_sheets : Site → (List ℕ → ℕ) → List Sheet
settled_sheets site adds = map (λ board. settled_sheet site.quirks adds board.sheet) site.boards

-- ---- boards

-- what is known of a board at its start: all but the room of its journal
pub record Start : Type 0 where
  pub condition : Condition
  pub journal : List Mark
  pub plan : List PlannedFault
  pub calls : ℕ
  pub faults : ℕ

abbrev pub start_of : BoardState → Start
start_of board = record { condition = board.condition; journal = board.journal; plan = board.plan; calls = board.calls; faults = board.faults }

-- a new board has the image and the planned faults that the site states
abbrev pub new_board : SiteBoard → Start
new_board board = record { condition = fresh (image_of board.image); journal = []; plan = board.faults; calls = 0; faults = 0 }

-- ---- vetoes

-- the vetoes of a plugin, by its sheet and its rules
abbrev pub vetoes_of : PluginSheet → List VetoRule → PluginVetoes
vetoes_of sheet rules = record { plugin = sheet.name; rules = rules }

-- ---- what stays

-- the campaign has the site's machine, catalogue, features, pool, boots and scripts
pub record IsOfSite (site : Site) (campaign : Campaign) : Type 0 where
  pub machine : campaign.facts.machine ≡ site.machine
  pub catalogue : campaign.facts.catalogue ≡ site.catalogue
  pub features : campaign.facts.features ≡ site.features
  pub pool : campaign.facts.pool ≡ site.pool
  pub boots : campaign.boots ≡ site.boots
  pub scripts : campaign.scripts ≡ site.scripts
