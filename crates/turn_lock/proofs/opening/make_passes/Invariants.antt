use Rattle.std.proofs.Common.{◌≡◌, ◌≤◌, [], map, length, vec_capacity}
use Rattle.std.specs.List.{range_with_len}
use Rattle.turn_lock.specs.declared.view.SeatView.TheVariants.{Opening}
use Rattle.turn_lock.specs.Shown.{new_pass}
use Rattle.turn_lock.proofs.opening.make_passes.Given as goal

abbrev pub invariant-loop-number : goal.invariant-loop-number
invariant-loop-number g l = let start = g.V.Chronicle.entries l.table.key.value.value in record {
  seat : l.opener.table_id ≡ l.table.table_id;
  opener : l.opener.me ≡ (Opening l.number start, []);
  count : length l.passes.items ≡ l.number;
  passes : l.passes.items ≡ map (new_pass l.table.table_id start) (range_with_len 0 l.number);
  room : l.seats ≤ vec_capacity l.passes;
}
