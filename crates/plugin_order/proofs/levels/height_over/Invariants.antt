use Rattle.std.proofs.Common.{◌≡◌, ℕ, ◌<◌, ◌+◌, ◌⊎◌, Some, IsTrue}
use Rattle.plugin_order.specs.Table.{holds, height_of}
use Rattle.plugin_order.proofs.levels.height_over.Given as goal

abbrev pub invariant-loop-q : goal.invariant-loop-q
invariant-loop-q l = record {
  above : (k g : ℕ) → k < l.q → IsTrue (holds l.rules l.p k) → height_of l.heights k ≡ Some g → g < l.height;
  reached : (l.height ≡ 0) ⊎ ((q : ℕ) × (g : ℕ) × IsTrue (holds l.rules l.p q) × (height_of l.heights q ≡ Some g) × (l.height ≡ g + 1));
}
