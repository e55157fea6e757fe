use Rattle.std.proofs.Common.{◌<◌, length, refl, arith}
use Rattle.campaign_inputs.proofs.Taking.{full_here, left_turn, taken_turn}
use Rattle.campaign_inputs.proofs.choosing.taken.Goals as goal

pub take_at-requires : goal.take_at-requires
take_at-requires g c =
    let lt : c.loop-at.at-index < length c.args.places.now = omega arith in
    full_here c.args.places.now c.loop-at.at-index _ c.args.slots.items c.loop-at.slots.items lt refl c.requires.full
    c.loop-at.invariant.left

pub loop-at-preserved : goal.loop-at-preserved
loop-at-preserved g c =
    let lt : c.loop-at.at-index < length c.args.places.now = omega arith in
    record {
      taken = taken_turn c.args.places.now c.loop-at.at-index _ c.args.slots.items c.loop-at.slots.items c.loop-at.taken.items _ _ lt
          refl c.loop-at.invariant.left c.take_at.ensures.was c.loop-at.invariant.taken c.in_ok-push.ensures.items;
      left = left_turn c.args.places.now c.loop-at.at-index _ c.args.slots.items c.loop-at.slots.items _ c.requires.apart lt refl
          c.loop-at.invariant.left c.take_at.ensures.left;
    }
