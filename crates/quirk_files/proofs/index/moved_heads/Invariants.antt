use Rattle.std.proofs.Common.{◌≡◌, map, take}
use Rattle.quirk_files.specs.Places.{moved}
use Rattle.quirk_files.proofs.index.moved_heads.Given as goal

abbrev pub invariant-loop-head : goal.invariant-loop-head
invariant-loop-head l = l.after.items ≡ map (moved l.fn.place l.fn.before) (take l.head-index l.heads)
