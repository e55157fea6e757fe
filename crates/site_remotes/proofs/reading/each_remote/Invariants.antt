use Rattle.std.proofs.Common.{◌≡◌, ◌+◌, drop, length, [], ◌∷◌, None}
use Rattle.json_values.specs.Trees.{items_view}
use Rattle.remote_set.specs.Merged.{first_repeated}
use Rattle.site_remotes.specs.Remotes.{IsWithin, each_remote}
use Rattle.site_remotes.proofs.reading.each_remote.Given as goal

abbrev pub invariant-loop-i : goal.invariant-loop-i
invariant-loop-i l = record {
  so_far : each_remote l.i l.read.items (items_view (drop l.i l.values)) ≡ each_remote 0 (l.fn.own ∷ []) (items_view l.values);
  read : length l.read.items ≡ l.i + 1;
  within : IsWithin l.read.items;
  named : first_repeated l.read.items ≡ None;
}
