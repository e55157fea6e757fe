use Rattle.std.proofs.Common.{◌≡◌, ℕ, ◌<◌, Some, None, count_by, is_none, vec_len, slice_index}
use Rattle.plugin_order.specs.Chains.{Leads}
use Rattle.plugin_order.specs.Table.{holds, height_of}
use Rattle.plugin_order.proofs.Apart.{IsNoted}
use Rattle.plugin_order.proofs.levels.cycle_from.Given as goal

abbrev pub invariant-walk : goal.invariant-walk
invariant-walk l = record {
  leads : Leads (holds l.rules) l.path.items l.at;
  there : l.at < l.rules.count;
  open_end : height_of l.heights l.at ≡ None;
  noted : IsNoted l.steps l.path.items;
  kept : (k i : ℕ) → height_of l.steps k ≡ Some i → (i < vec_len l.path) × (slice_index l.path.items i ≡ k);
}

abbrev pub decreases-walk : goal.decreases-walk
decreases-walk l = count_by is_none l.steps
