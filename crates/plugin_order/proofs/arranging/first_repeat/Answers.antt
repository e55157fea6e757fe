use Rattle.std.proofs.Common.{◌≡◌, Bool, true, false, below_more, arith}
use Rattle.plugin_order.specs.Arranged.{IsRepeat}
use Rattle.plugin_order.proofs.arranging.first_repeat.Goals as goal

apart : (b : Bool) → b ≡ true → b ≡ false → ⊥
apart b t f = cc

pub loop-p-preserved : goal.loop-p-preserved
loop-p-preserved c = below_more (λ k. IsRepeat c.args.sheets.now k → ⊥) c.loop-p.p c.loop-p.invariant
    (λ r. apart c.is_repeat.result (c.is_repeat.ensures.1 r) c.if-is_repeat.false)

pub returns-clause-none : goal.returns-clause-none
returns-clause-none c = λ p lt. c.loop-p.invariant p (omega (arith, lt, c.loop-p-test.false))
