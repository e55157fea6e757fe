-- What the program brings to the top call.
use Rattle.std.specs.Prelude.{◌≡◌, List, [], ◌∷◌, None, replicate}
use Rattle.fw_facts.specs.declared.machine.MachineFacts.{MachineFacts}
use Rattle.plugin_order.specs.declared.sheet.PluginSheet.{PluginSheet}
use Rattle.update_log.specs.declared.facts.PluginVetoes.{PluginVetoes}
use Rattle.board_plugins.specs.Sheets.{capsule_sheet, flash_sheet, loader_sheet, power_sheet, power_vetoes}
use Rattle.client_plays.specs.Tools.{ShelfTold}
use Rattle.fwupd_service.specs.Plugged.{PluginWords, Plugins, plugins_with}
use Rattle.site_making.specs.Settled.{vetoes_of}

-- The four plugins, in the order in which they are handed in.
abbrev pub program_sheets : List PluginSheet
program_sheets = flash_sheet ∷ loader_sheet ∷ capsule_sheet ∷ power_sheet ∷ []

-- Their vetoes on a machine: the power plugin alone has one.
abbrev pub program_vetoes : MachineFacts → List PluginVetoes
program_vetoes machine =
    vetoes_of flash_sheet [] ∷ vetoes_of loader_sheet [] ∷ vetoes_of capsule_sheet [] ∷ vetoes_of power_sheet (power_vetoes machine) ∷ []

-- The program's plugins, with what plugins of their kind say of themselves.
abbrev pub program_plugins : {Q : Type 0} → PluginWords Q → Plugins Q
program_plugins words = plugins_with program_sheets program_vetoes words

-- Plugins with these sheets, which tell these vetoes of a machine, are the program's.
pub record AreProgram (sheets : List PluginSheet) (vetoes : MachineFacts → List PluginVetoes) : Type 0 where
  pub sheets_are : sheets ≡ program_sheets
  pub vetoes_are : (machine : MachineFacts) → vetoes machine ≡ program_vetoes machine

-- A shelf over a folder tells nothing of its files, and has met no fault at first.
abbrev pub folder_shelf : ShelfTold
folder_shelf = record { files = None; faults = 0 }

-- There is one for each client of a campaign, of which there are sixteen at most.
abbrev pub folder_shelves : List ShelfTold
folder_shelves = replicate 16 folder_shelf
