use Rattle.std.proofs.Common.{◌≡◌, ℕ, ◌<◌, None, IsTrue}
use Rattle.plugin_order.specs.Table.{holds, height_of}
use Rattle.plugin_order.proofs.levels.waits_on.Given as goal

abbrev pub invariant-loop-q : goal.invariant-loop-q
invariant-loop-q l = (k : ℕ) → k < l.q → IsTrue (holds l.rules l.p k) → height_of l.heights k ≡ None → ⊥
