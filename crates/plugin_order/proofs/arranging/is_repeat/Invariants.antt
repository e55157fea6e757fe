use Rattle.std.proofs.Common.{◌≡◌, ℕ, ◌<◌}
use Rattle.plugin_order.specs.Sheets.{name_at}
use Rattle.plugin_order.proofs.arranging.is_repeat.Given as goal

abbrev pub invariant-loop-q : goal.invariant-loop-q
invariant-loop-q l = (k : ℕ) → k < l.q → name_at l.sheets k ≡ name_at l.sheets l.p → ⊥
