use Rattle.std.proofs.Common.{◌≡◌, ◌++◌, map, take, drop}
use Rattle.core_state.specs.CoreSteps.{stepped}
use Rattle.core_state.proofs.tracing.add_step.Given as goal

abbrev pub invariant-loop-traced : goal.invariant-loop-traced
invariant-loop-traced l = l.traces ≡ map (stepped l.entry l.step) (take l.traced-index l.initial.traces) ++ drop l.traced-index l.initial.traces
