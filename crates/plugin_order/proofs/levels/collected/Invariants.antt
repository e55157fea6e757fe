use Rattle.std.proofs.Common.{◌≡◌, ℕ, ◌<◌, Some, vec_len, slice_index}
use Rattle.plugin_order.specs.Table.{height_of}
use Rattle.plugin_order.proofs.levels.collected.Given as goal

abbrev pub invariant-loop-p : goal.invariant-loop-p
invariant-loop-p l = record {
  len : vec_len l.all ≡ l.p;
  each : (k : ℕ) → k < l.p → height_of l.heights k ≡ Some (slice_index l.all.items k);
}
