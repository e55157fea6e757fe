use Rattle.std.proofs.Common.{◌≡◌, ◌+◌, ◌≤◌, drop, length, []}
use Rattle.json_values.specs.Trees.{items_view}
use Rattle.release_catalogue.specs.declared.spot.Level.TheVariants.{Second}
use Rattle.release_catalogue.specs.Reading.{each, entry_spot}
use Rattle.site_scripts.specs.Boots.{items_in, script_at}
use Rattle.site_scripts.proofs.scripts.each_script.Given as goal

abbrev pub invariant-loop-i : goal.invariant-loop-i
invariant-loop-i l = record {
  rest : each (λ earlier. script_at (l.taken + items_in earlier)) (entry_spot l.base Second) l.read.items (items_view (drop l.i l.values))
      ≡ each (λ earlier. script_at (l.taken + items_in earlier)) (entry_spot l.base Second) [] (items_view l.values);
  count : length l.read.items ≡ l.i;
  sum : l.so_far ≡ l.taken + items_in l.read.items;
  few : l.so_far ≤ 8192;
}
