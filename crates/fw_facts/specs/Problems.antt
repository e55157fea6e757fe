-- The problems of a device.
use Rattle.std.specs.Prelude.{ℕ, Bool, not, ◌&&◌, List, [], ◌∷◌, Option, None, is_some, find}
use Rattle.fw_facts.specs.declared.machine.MachineFacts.{MachineFacts}
use Rattle.fw_facts.specs.declared.flags.DeviceFlag.TheVariants.{RequireAc}
use Rattle.fw_facts.specs.declared.problem.Problem.{Problem}
use Rattle.fw_facts.specs.declared.problem.Problem.TheVariants.{SystemPowerTooLow, Unreachable, PowerTooLow, UpdatePending, RequireAcPower, LidIsClosed, UpdateInProgress}
use Rattle.fw_facts.specs.declared.view.DeviceView.{DeviceView}
use Rattle.fw_facts.specs.Flags.{has_flag}
use Rattle.fw_facts.specs.Views.{flags_of}

-- The device, which may have a row that waits for the next boot, has the problem.
abbrev pub has_problem : MachineFacts → DeviceView → Option ℕ → Problem → Bool
has_problem machine view pending SystemPowerTooLow = machine.power_low
has_problem machine view pending Unreachable = view.sheet.unreachable
has_problem machine view pending PowerTooLow = view.sheet.power_low
has_problem machine view pending UpdatePending = is_some pending
has_problem machine view pending RequireAcPower = has_flag RequireAc (flags_of view) && not machine.on_ac
has_problem machine view pending LidIsClosed = view.sheet.lid && machine.lid_closed
has_problem machine view pending UpdateInProgress = is_some view.claim

-- The problems that refuse a request, in their order.
abbrev pub refusing_problems : List Problem
refusing_problems = SystemPowerTooLow ∷ Unreachable ∷ PowerTooLow ∷ RequireAcPower ∷ LidIsClosed ∷ []

-- The first of them that the device has.
abbrev pub hindrance : MachineFacts → DeviceView → Option Problem
hindrance machine view = find (has_problem machine view None) refusing_problems
