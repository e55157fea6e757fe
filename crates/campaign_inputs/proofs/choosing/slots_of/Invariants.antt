use Rattle.std.proofs.Common.{◌≡◌, Some, map}
use Rattle.campaign_inputs.proofs.choosing.slots_of.Given as goal

abbrev pub invariant-loop-plugin : goal.invariant-loop-plugin
invariant-loop-plugin g l = l.slots.items ≡ map Some l.yielded
