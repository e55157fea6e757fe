use Rattle.std.proofs.Common.{◌≡◌, drop, []}
use Rattle.json_values.specs.Trees.{items_view}
use Rattle.release_catalogue.specs.declared.spot.Level.TheVariants.{Whole}
use Rattle.release_catalogue.specs.Reading.{each, entry_spot}
use Rattle.site_files.specs.Instances.{instance_at}
use Rattle.site_files.proofs.instances.each_instance.Given as goal

abbrev pub invariant-loop-value : goal.invariant-loop-value
invariant-loop-value l = each (λ _. instance_at) (entry_spot l.spot Whole) l.read.items (items_view (drop l.value-index l.values))
    ≡ each (λ _. instance_at) (entry_spot l.spot Whole) [] (items_view l.values)
