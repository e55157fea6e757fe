use Rattle.std.proofs.Common.{◌≡◌, ◌+◌, ◌-◌, length-set, refl, arith, ◌∙◌, false}
use Rattle.std.proofs.lemmas.List.{get_or-set_other}
use Rattle.fw_patterns.proofs.PlaceLemmas.{TellFrom-back}
use Rattle.fw_patterns.proofs.matching.step_back.Goals as goal

pub loop-at-preserved : goal.loop-at-preserved
loop-at-preserved c =
    let inv = c.loop-at.invariant in
    let one : c.loop-at.at - 1 + 1 ≡ c.loop-at.at = omega (arith, c.loop-at-test.true) in (
      omega (arith, inv.0),
      length-set c.loop-at.places (c.loop-at.at - 1) c.at_byte.result ∙ inv.1,
      inv.3 (c.loop-at.at - 1) (omega (arith, c.loop-at-test.true)),
      λ j lt. get_or-set_other c.loop-at.places (c.loop-at.at - 1) j c.at_byte.result false (omega arith) ∙ inv.3 j (omega arith),
      λ left before. TellFrom-back c.args.to_end c.args.pieces.now c.args.byte c.args.places.now c.loop-at.places (c.loop-at.at - 1) c.index-pieces-at.result
          (omega (arith, c.requires, inv.0, inv.1, c.loop-at-test.true)) (omega (arith, inv.0, c.loop-at-test.true)) c.index-pieces-at.is left c.at_byte.result
          (c.at_byte.ensures ∙ rw (one, c.stands_for.ensures, inv.3 (c.loop-at.at - 1) (omega (arith, c.loop-at-test.true)), inv.2) refl)
          before (rw one (inv.4 left before)),
    )
