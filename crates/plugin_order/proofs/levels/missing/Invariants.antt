use Rattle.std.proofs.Common.{◌≡◌, ℕ, ◌<◌, None}
use Rattle.plugin_order.specs.Table.{height_of}
use Rattle.plugin_order.proofs.levels.missing.Given as goal

abbrev pub invariant-loop-p : goal.invariant-loop-p
invariant-loop-p l = (k : ℕ) → k < l.p → height_of l.heights k ≡ None → ⊥
