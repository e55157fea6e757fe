use Rattle.std.proofs.Common.{◌≡◌, ℕ, ◌<◌, false, length, slice_index}
use Rattle.std.specs.Ordering.{nat_cmp, is_lt}
use Rattle.std.specs.Cmp.Lexicographic.{slice_cmp}
use Rattle.plugin_order.specs.Sheets.{name_at}
use Rattle.plugin_order.proofs.cycles.least_at.Given as goal

abbrev pub invariant-loop-i : goal.invariant-loop-i
invariant-loop-i l = record {
  within : l.at < length l.cycle;
  least : (k : ℕ) → k < l.i → is_lt (slice_cmp nat_cmp (name_at l.sheets (slice_index l.cycle k)) (name_at l.sheets (slice_index l.cycle l.at))) ≡ false;
}
