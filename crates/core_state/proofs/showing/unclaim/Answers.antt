use Rattle.std.proofs.Common.{refl}
use Rattle.std.specs.Prelude.{None}
use Rattle.core_state.proofs.ClaimLoops.{each-next}
use Rattle.core_state.specs.CoreViews.{unclaimed}
use Rattle.core_state.proofs.showing.unclaim.Goals as goal

pub loop-at-preserved : goal.loop-at-preserved
loop-at-preserved c =
    each-next unclaimed c.args.devices.now c.loop-at.devices c.set_claim.new.self c.loop-at.at None
    c.loop-at.invariant
    (rw c.views-at-end.ensures at c.loop-at-test.true)
    (λ view. refl)
    c.set_claim.ensures
