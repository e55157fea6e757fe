use Rattle.std.proofs.Common.{◌≡◌, ℕ, ◌<◌, ◌≤◌, ◌&&◌, not, false, slice_index_or}
use Rattle.plugin_order.specs.Sheets.{names, name_at}
use Rattle.plugin_order.proofs.conflicts.disable.Given as goal

abbrev pub invariant-loop-p : goal.invariant-loop-p
invariant-loop-p l = record {
  done : (k : ℕ) → k < l.p → slice_index_or l.on k false ≡ (slice_index_or l.initial.on k false && not (names l.list (name_at l.sheets k)));
  left : (k : ℕ) → l.p ≤ k → slice_index_or l.on k false ≡ slice_index_or l.initial.on k false;
}
