-- Tests of the machine, and the rules of plugins.
use Rattle.std.specs.Prelude.{Bool, true, not, ◌&&◌}
use Rattle.fw_facts.specs.declared.machine.MachineFacts.{MachineFacts}
use Rattle.fw_facts.specs.declared.machine.MachineTest.{MachineTest}
use Rattle.fw_facts.specs.declared.machine.MachineTest.TheVariants.{Always, OnBattery, PowerLow, LidClosed}
use Rattle.fw_facts.specs.declared.machine.VetoRule.{VetoRule}
use Rattle.fw_facts.specs.declared.view.DeviceView.{DeviceView}
use Rattle.fw_facts.specs.Flags.{has_all}
use Rattle.fw_facts.specs.Views.{flags_of}

-- The machine passes the test.
abbrev pub test_holds : MachineTest → MachineFacts → Bool
test_holds Always machine = true
test_holds OnBattery machine = not machine.on_ac
test_holds PowerLow machine = machine.power_low
test_holds LidClosed machine = machine.lid_closed

-- The rule forbids an update of the device: its test passes, and the device has all of its flags.
abbrev pub rule_holds : MachineFacts → DeviceView → VetoRule → Bool
rule_holds machine view rule = test_holds rule.when machine && has_all rule.flags (flags_of view)
