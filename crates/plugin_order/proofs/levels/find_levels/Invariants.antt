use Rattle.std.proofs.Common.{◌≡◌, ℕ, ◌+◌, ◌≤◌, Some, count_by, is_none}
use Rattle.plugin_order.specs.Chains.{IsLongest}
use Rattle.plugin_order.specs.Table.{holds, height_of}
use Rattle.plugin_order.proofs.levels.find_levels.Given as goal

abbrev pub invariant-loop-p : goal.invariant-loop-p
invariant-loop-p l = record {
  longest : (p h : ℕ) → height_of l.heights p ≡ Some h → IsLongest (holds l.rules) p h;
  small : (p h : ℕ) → height_of l.heights p ≡ Some h → h + count_by is_none l.heights ≤ 64;
}

abbrev pub decreases-loop-p : goal.decreases-loop-p
decreases-loop-p l = count_by is_none l.heights
