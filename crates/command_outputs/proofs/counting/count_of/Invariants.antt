use Rattle.std.proofs.Common.{◌≡◌, ◌≤◌, length, take}
use Rattle.std.specs.Prelude.{filter}
use Rattle.command_outputs.specs.Summed.{is_of}
use Rattle.command_outputs.proofs.counting.count_of.Given as goal

abbrev pub invariant-loop-event : goal.invariant-loop-event
invariant-loop-event l = record {
  are : l.count ≡ length (filter (is_of l.kind) (take l.event-index l.log));
  within : l.count ≤ l.event-index;
}
