use Rattle.std.proofs.Common.{arith}
use Rattle.update_log.specs.declared.event.Op.TheVariants as ops
use Rattle.device_claims.specs.Limits as limits
use Rattle.device_claims.proofs.Standing.{stands}
use Rattle.device_claims.proofs.NextStep.{cleanup-of}
use Rattle.device_claims.specs.States.{Stands}
use Rattle.device_claims.proofs.steps.Claim+JoinedState.reload.Goals as goal

pub invariant_of-result : goal.invariant_of-result
invariant_of-result g c =
    stands limits.reloaded ops.Reload _ _ _ c.note.ensures (omega arith) (omega arith) (omega arith) (omega arith)

pub returns-clause-next : goal.returns-clause-next
returns-clause-next g c =
    let here : Stands limits.reloaded c.note.new.self =
    stands limits.reloaded ops.Reload _ _ _ c.note.ensures (omega arith) (omega arith) (omega arith) (omega arith) in
    cleanup-of _ (omega (arith, here.earliest, here.latest))
