use Rattle.std.proofs.Common.{arith}
use Rattle.std.proofs.lemmas.List.Edits.{map_over_more}
use Rattle.core_state.specs.CoreSteps.{stepped}
use Rattle.core_state.proofs.tracing.add_step.Goals as goal

pub loop-traced-preserved : goal.loop-traced-preserved
loop-traced-preserved c =
    rw (c.stepped.ensures, ← c.traced-item.is)
    (map_over_more (stepped c.args.entry c.args.step) c.args.traces.now c.loop-traced.traces c.loop-traced.traced-index c.traced-item.result (omega arith) c.loop-traced.invariant c.traced-item.is)
