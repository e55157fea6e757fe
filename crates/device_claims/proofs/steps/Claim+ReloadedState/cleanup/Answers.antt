use Rattle.std.proofs.Common.{arith}
use Rattle.update_log.specs.declared.event.Op.TheVariants as ops
use Rattle.device_claims.specs.Limits as limits
use Rattle.device_claims.proofs.Standing.{stands}
use Rattle.device_claims.proofs.NextStep.{end-of}
use Rattle.device_claims.specs.States.{Stands}
use Rattle.device_claims.proofs.steps.Claim+ReloadedState.cleanup.Goals as goal

pub invariant_of-result : goal.invariant_of-result
invariant_of-result g c =
    stands limits.closed ops.Cleanup _ _ _ c.note.ensures (omega arith) (omega arith) (omega arith) (omega arith)

pub returns-clause-done : goal.returns-clause-done
returns-clause-done g c =
    let here : Stands limits.closed c.note.new.self =
    stands limits.closed ops.Cleanup _ _ _ c.note.ensures (omega arith) (omega arith) (omega arith) (omega arith) in
    end-of _ (omega (arith, here.earliest, here.latest))
