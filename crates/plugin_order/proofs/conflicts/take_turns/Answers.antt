use Rattle.std.proofs.Common.{List, ℕ, [], take, sym, subst}
use Rattle.plugin_order.specs.Arranged.{disabled, IsOff}
use Rattle.plugin_order.proofs.WalkLaws.{disabled-more}
use Rattle.plugin_order.proofs.conflicts.take_turns.Goals as goal

pub loop-p-preserved : goal.loop-p-preserved
loop-p-preserved c =
    subst (λ (off : List (List ℕ)). IsOff c.args.sheets.now off c.turn.new.on)
    (sym (disabled-more c.args.sheets.now c.args.order.now c.loop-p.p-index c.loop-p-test.true))
    (c.turn.ensures (disabled c.args.sheets.now [] (take c.loop-p.p-index c.args.order.now)) c.loop-p.invariant)
