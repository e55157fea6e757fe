use Rattle.std.proofs.Common.{◌≡◌, drop, []}
use Rattle.json_values.specs.Trees.{items_view}
use Rattle.release_catalogue.specs.declared.spot.Level.TheVariants.{Whole}
use Rattle.release_catalogue.specs.Reading.{each, entry_spot}
use Rattle.site_scripts.specs.Boots.{absent_at}
use Rattle.site_scripts.proofs.absent.each_absent.Given as goal

abbrev pub invariant-loop-value : goal.invariant-loop-value
invariant-loop-value l = each (λ _. absent_at l.ports) (entry_spot l.spot Whole) l.read.items (items_view (drop l.value-index l.values))
    ≡ each (λ _. absent_at l.ports) (entry_spot l.spot Whole) [] (items_view l.values)
