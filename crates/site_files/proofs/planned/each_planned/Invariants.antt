use Rattle.std.proofs.Common.{◌≡◌, drop, []}
use Rattle.json_values.specs.Trees.{items_view}
use Rattle.release_catalogue.specs.declared.spot.Level.TheVariants.{Whole}
use Rattle.release_catalogue.specs.Reading.{each, entry_spot}
use Rattle.site_files.specs.Plans.{last_call, planned_at}
use Rattle.site_files.proofs.planned.each_planned.Given as goal

abbrev pub invariant-loop-value : goal.invariant-loop-value
invariant-loop-value l = record {
  rest : each (λ earlier. planned_at (last_call earlier)) (entry_spot l.spot Whole) l.read.items (items_view (drop l.value-index l.values))
      ≡ each (λ earlier. planned_at (last_call earlier)) (entry_spot l.spot Whole) [] (items_view l.values);
  call : l.last ≡ last_call l.read.items;
}
