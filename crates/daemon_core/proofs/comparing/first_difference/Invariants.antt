use Rattle.std.proofs.Common.{◌≡◌, ◌≤◌, length, take}
use Rattle.daemon_core.proofs.comparing.first_difference.Given as goal

abbrev pub invariant-loop-row : goal.invariant-loop-row
invariant-loop-row l = record {
  count : l.at ≡ l.row-index;
  within : l.at ≤ length l.right;
  same : take l.at l.left ≡ take l.at l.right;
}
