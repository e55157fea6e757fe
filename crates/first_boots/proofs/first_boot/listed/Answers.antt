use Rattle.std.proofs.Common.{◌<◌, length, arith}
use Rattle.first_boots.proofs.FirstBoots.{listed_turn}
use Rattle.first_boots.proofs.first_boot.listed.Goals as goal

pub loop-number-preserved : goal.loop-number-preserved
loop-number-preserved c =
    let lt : c.loop-number.number < length c.args.shown.now = omega arith in
    listed_turn c.args.plan.now c.args.shown.now c.loop-number.number _ c.seen_at.result c.loop-number.listed.items c.push.new.self.items c.none.result lt c.loop-number.invariant
    c.seen_at.ensures c.in_ok-push.ensures.items c.none.ensures
