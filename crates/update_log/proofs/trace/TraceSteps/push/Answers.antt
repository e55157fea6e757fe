use Rattle.std.proofs.Common.{ap, arith, length, ◌≡◌}
use Rattle.std.specs.Prelude.{take}
use Rattle.update_log.specs.Traces.{count_kept}
use Rattle.update_log.proofs.Places.{are-steps}
use Rattle.update_log.proofs.trace.TraceSteps.push.Goals as goal

pub invariant_of-self : goal.invariant_of-self
invariant_of-self c =
    let n : length (take c.self.inside.len c.self.inside.kept) ≡ c.self.inside.len = count_kept c.self.inside c.self.invariant in
    let v = ap length c.self.view_is in
    are-steps c.self.inside c.args.step c.self.invariant (omega (arith, n, v, c.requires.room))
