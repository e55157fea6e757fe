-- What the four plugins say of themselves.
use Rattle.std.specs.Prelude.{ℕ, List, [], ◌∷◌, true, codes, if◌then◌else◌}
use Rattle.fw_facts.specs.declared.flags.DeviceFlag.TheVariants.{Internal}
use Rattle.fw_facts.specs.declared.machine.MachineFacts.{MachineFacts}
use Rattle.fw_facts.specs.declared.machine.MachineTest.TheVariants.{OnBattery}
use Rattle.fw_facts.specs.declared.machine.VetoRule.{VetoRule}
use Rattle.fw_facts.specs.Flags.{no_flags, set_flag}
use Rattle.plugin_order.specs.declared.sheet.PluginSheet.{PluginSheet}

-- A plugin with no rule.
abbrev pub sheet_without_rules : List ℕ → PluginSheet
sheet_without_rules name = record { name = name; conflicts = []; after = []; before = []; better_than = [] }

abbrev pub flash_sheet : PluginSheet
flash_sheet = sheet_without_rules (codes "flash")

abbrev pub loader_sheet : PluginSheet
loader_sheet = sheet_without_rules (codes "loader")

-- The capsule plugin is better than the flash plugin.
abbrev pub capsule_sheet : PluginSheet
capsule_sheet = record (sheet_without_rules (codes "capsule")) { better_than = codes "flash" ∷ [] }

-- The power plugin runs before the other three.
abbrev pub power_sheet : PluginSheet
power_sheet = record (sheet_without_rules (codes "power")) { before = codes "flash" ∷ codes "loader" ∷ codes "capsule" ∷ [] }

-- No update of a device that can't be taken out of the machine, while the machine runs on its battery.
abbrev pub battery_veto : VetoRule
battery_veto = record { when = OnBattery; flags = set_flag Internal true no_flags }

-- The power plugin has this veto on a machine without external power, and no other.
abbrev pub power_vetoes : MachineFacts → List VetoRule
power_vetoes machine = if machine.on_ac then [] else battery_veto ∷ []

-- A plugin as contracts see it: what it says of itself, and the vetoes that it has.
pub record PluginState : Type 0 where
  pub sheet : PluginSheet
  pub vetoes : List VetoRule
