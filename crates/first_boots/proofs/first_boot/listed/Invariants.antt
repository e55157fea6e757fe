use Rattle.std.proofs.Common.{◌≡◌, take}
use Rattle.first_boots.specs.FirstBoot.{listed_from}
use Rattle.first_boots.proofs.first_boot.listed.Given as goal

abbrev pub invariant-loop-number : goal.invariant-loop-number
invariant-loop-number l = l.listed.items ≡ listed_from l.plan 0 (take l.number l.shown)
