-- Words that a client reads.
use Rattle.std.specs.Prelude.{ℕ, List, codes}
use Rattle.std.specs.declared.cmp.Ordering.{Ordering}
use Rattle.fw_facts.specs.declared.problem.Problem.{Problem}
use Rattle.fw_facts.specs.declared.problem.Problem.TheVariants as problems
use Rattle.fw_facts.specs.declared.seen.Mode.{Mode}
use Rattle.fw_facts.specs.declared.seen.Mode.TheVariants as modes
use Rattle.history_keeper.specs.declared.row.RowState.{RowState}
use Rattle.history_keeper.specs.declared.row.RowState.TheVariants as states
use Rattle.update_log.specs.declared.refusal.Refusal.{Refusal}
use Rattle.update_log.specs.declared.refusal.Refusal.TheVariants as refusals

-- A row's state.
abbrev pub state_word : RowState → List ℕ
state_word states.Pending = codes "pending"
state_word states.Success = codes "success"
state_word states.Failed = codes "failed"
state_word states.NeedsReboot = codes "needs-reboot"
state_word states.Begun = codes "begun"

-- A board's mode.
abbrev pub mode_word : Mode → List ℕ
mode_word modes.Runtime = codes "runtime"
mode_word modes.Bootloader = codes "bootloader"

-- A device problem, by fwupd's word.
abbrev pub problem_word : Problem → List ℕ
problem_word problems.SystemPowerTooLow = codes "system-power-too-low"
problem_word problems.Unreachable = codes "unreachable"
problem_word problems.PowerTooLow = codes "power-too-low"
problem_word problems.UpdatePending = codes "update-pending"
problem_word problems.RequireAcPower = codes "require-ac-power"
problem_word problems.LidIsClosed = codes "lid-is-closed"
problem_word problems.UpdateInProgress = codes "update-in-progress"

-- How the version of a release stands to the one that the device shows.
abbrev pub order_word : Ordering → List ℕ
order_word Ordering.Greater = codes "newer"
order_word Ordering.Equal = codes "same"
order_word Ordering.Less = codes "older"

-- Why a request is refused.
abbrev pub refusal_word : Refusal → List ℕ
refusal_word refusals.NoDevice = codes "no-device"
refusal_word refusals.NoRelease = codes "no-release"
refusal_word (refusals.Busy entry) = codes "busy"
refusal_word (refusals.Unsettled entry) = codes "unsettled"
refusal_word refusals.NotUpdatable = codes "not-updatable"
refusal_word refusals.Locked = codes "locked"
refusal_word (refusals.Problem problem) = codes "problem"
refusal_word refusals.SameVersion = codes "same-version"
refusal_word refusals.Older = codes "older"
refusal_word (refusals.Unmet unmet) = codes "unmet"
refusal_word (refusals.Veto plugin) = codes "veto"
refusal_word (refusals.Size len min max) = codes "size"
refusal_word (refusals.NoRoom need free) = codes "no-room"
refusal_word (refusals.Payload note) = codes "payload"
refusal_word refusals.RowsFull = codes "rows-full"
refusal_word refusals.KeeperFault = codes "keeper-fault"
refusal_word (refusals.Retry fault) = codes "retry"
