use Rattle.std.proofs.Common.{◌≡◌, ◌-◌}
use Rattle.site_making.specs.Made.{made_script}
use Rattle.site_making.proofs.scripts.made_script.Given as goal

abbrev pub invariant-loop-board : goal.invariant-loop-board
invariant-loop-board l = l.script.items ≡ made_script (l.board - 1) l.clients l.client
