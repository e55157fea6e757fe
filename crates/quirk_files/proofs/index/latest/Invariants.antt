use Rattle.std.proofs.Common.{◌≡◌, take}
use Rattle.quirk_files.specs.Places.{latest}
use Rattle.quirk_files.proofs.index.latest.Given as goal

abbrev pub invariant-loop-head : goal.invariant-loop-head
invariant-loop-head l = l.found ≡ latest (take l.head-index l.heads)
