use Rattle.std.proofs.Common.{◌≡◌, ℕ, ◌<◌, None, IsTrue}
use Rattle.plugin_order.specs.Table.{holds, height_of}
use Rattle.plugin_order.proofs.levels.ready.Given as goal

abbrev pub invariant-loop-p : goal.invariant-loop-p
invariant-loop-p l = (k : ℕ) → k < l.p → height_of l.heights k ≡ None
    → (q : ℕ) × (q < l.rules.count) × IsTrue (holds l.rules k q) × (height_of l.heights q ≡ None)
