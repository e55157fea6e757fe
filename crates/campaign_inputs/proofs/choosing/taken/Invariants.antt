use Rattle.std.proofs.Common.{◌≡◌, Some, map, take, slice_get}
use Rattle.campaign_inputs.proofs.Taking.{AreLeft}
use Rattle.campaign_inputs.proofs.choosing.taken.Given as goal

abbrev pub invariant-loop-at : goal.invariant-loop-at
invariant-loop-at g l = record {
  taken : map Some (map Some l.taken.items) ≡ map (slice_get l.fn.slots.items) (take l.at-index l.places);
  left : AreLeft l.places l.at-index l.fn.slots.items l.slots.items;
}
