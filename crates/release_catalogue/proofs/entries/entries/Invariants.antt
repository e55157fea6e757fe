use Rattle.std.proofs.Common.{◌≡◌, map, drop, length, []}
use Rattle.json_values.specs.Trees.{items_view}
use Rattle.release_catalogue.specs.Reading.{each, entry_spot}
use Rattle.release_catalogue.proofs.entries.entries.Given as goal

abbrev pub invariant-loop-i : goal.invariant-loop-i
invariant-loop-i g l = record {
  so_far : each g.E.Entry.reading (entry_spot l.base l.level) (map g.E.Entry.seen l.read.items) (items_view (drop l.i l.values))
      ≡ each g.E.Entry.reading (entry_spot l.base l.level) [] (items_view l.values);
  read : length (map g.E.Entry.seen l.read.items) ≡ l.i;
}
