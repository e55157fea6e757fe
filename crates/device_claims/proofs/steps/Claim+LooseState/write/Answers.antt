use Rattle.std.proofs.Common.{ap, arith, length}
use Rattle.update_log.specs.declared.event.Op.TheVariants as ops
use Rattle.device_claims.specs.Limits as limits
use Rattle.device_claims.specs.declared.claim.Parts.{Parts}
use Rattle.device_claims.proofs.NextStep.{home-at-write}
use Rattle.device_claims.proofs.Standing.{stands, room-written}
use Rattle.device_claims.proofs.steps.Claim+LooseState.write.Goals as goal

pub write-answer-requires-clause-home : goal.write-answer-requires-clause-home
write-answer-requires-clause-home g c =
    home-at-write c.self.inside.parts.trace c.self.inside.parts.board.condition c.self.invariant.shown (rw c.self.view_is c.requires)

pub invariant_of-result : goal.invariant_of-result
invariant_of-result g c =
    let steps = ap (λ (p : Parts). length p.trace.steps) c.write-answer.ensures.others in
    stands limits.flashed ops.Write _ _ _ c.note.ensures (omega (arith, steps)) (omega (arith, room-written _ _ _ _ _ c.write-answer.ensures.board)) (omega arith) (omega arith)
