use Rattle.std.proofs.Common.{◌≡◌, ◌-◌, map}
use Rattle.std.specs.List.{range_with_len}
use Rattle.site_making.specs.Made.{made_script}
use Rattle.site_making.proofs.scripts.made_scripts.Given as goal

abbrev pub invariant-loop-client : goal.invariant-loop-client
invariant-loop-client l = l.scripts.items ≡ map (made_script l.boards l.clients) (range_with_len 1 (l.client - 1))
