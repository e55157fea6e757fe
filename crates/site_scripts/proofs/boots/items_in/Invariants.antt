use Rattle.std.proofs.Common.{◌≡◌, ◌+◌, drop}
use Rattle.site_scripts.specs.Boots.{items_in}
use Rattle.site_scripts.proofs.boots.items_in.Given as goal

abbrev pub invariant-loop-script : goal.invariant-loop-script
invariant-loop-script l = l.sum + items_in (drop l.script-index l.scripts) ≡ items_in l.scripts
