use Rattle.std.proofs.Common.{◌≡◌, ◌+◌, ◌≤◌, drop, length, []}
use Rattle.json_values.specs.Trees.{items_view}
use Rattle.release_catalogue.specs.declared.spot.Level.TheVariants.{Third}
use Rattle.release_catalogue.specs.Reading.{each, entry_spot}
use Rattle.site_scripts.specs.Items.{item_at}
use Rattle.site_scripts.proofs.item.each_item.Given as goal

abbrev pub invariant-loop-value : goal.invariant-loop-value
invariant-loop-value l = record {
  rest : each (λ earlier. item_at (l.taken + length earlier)) (entry_spot l.spot Third) l.read.items (items_view (drop l.value-index l.values))
      ≡ each (λ earlier. item_at (l.taken + length earlier)) (entry_spot l.spot Third) [] (items_view l.values);
  few : l.taken + length l.read.items ≤ 8192;
}
