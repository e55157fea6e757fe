use Rattle.std.proofs.Common.{ℕ, ◌<◌}
use Rattle.plugin_order.specs.Arranged.{IsRepeat}
use Rattle.plugin_order.proofs.arranging.first_repeat.Given as goal

abbrev pub invariant-loop-p : goal.invariant-loop-p
invariant-loop-p l = (k : ℕ) → k < l.p → IsRepeat l.sheets k → ⊥
