use Rattle.std.proofs.Common.{◌≡◌, ◌+◌, ◌≤◌, All, drop, length, []}
use Rattle.json_values.specs.Trees.{items_view}
use Rattle.release_catalogue.specs.Reading.{each, entry_spot}
use Rattle.release_catalogue.specs.Components.{below, component_at, releases_in}
use Rattle.release_catalogue.proofs.component.each_component.Given as goal

abbrev pub invariant-loop-i : goal.invariant-loop-i
invariant-loop-i l = record {
  so_far : each (λ earlier. component_at (below l.level) (l.taken + releases_in earlier)) (entry_spot l.base l.level) l.read.items (items_view (drop l.i l.values))
      ≡ each (λ earlier. component_at (below l.level) (l.taken + releases_in earlier)) (entry_spot l.base l.level) [] (items_view l.values);
  read : length l.read.items ≡ l.i;
  taken : l.so_far ≡ l.taken + releases_in l.read.items;
  few : l.so_far ≤ 20000;
  requirements : All (λ c. length c.requirements ≤ 64) l.read.items;
}
