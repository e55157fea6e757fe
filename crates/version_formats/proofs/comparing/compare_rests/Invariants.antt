use Rattle.std.proofs.Common.{◌≡◌, ◌≤◌, ◌-◌, drop, length}
use Rattle.version_formats.specs.VersionOrder.{rest_cmp}
use Rattle.version_formats.proofs.comparing.compare_rests.Given as goal

abbrev pub invariant-loop-at : goal.invariant-loop-at
invariant-loop-at l = (rest_cmp (drop l.at l.left) (drop l.at l.right) ≡ rest_cmp l.left l.right) × (l.at ≤ length l.left) × (l.at ≤ length l.right)

abbrev pub decreases-loop-at : goal.decreases-loop-at
decreases-loop-at l = length l.left - l.at
