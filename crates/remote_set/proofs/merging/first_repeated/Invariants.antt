use Rattle.std.proofs.Common.{◌≡◌, drop, take}
use Rattle.remote_set.specs.Merged.{first_repeated, repeated_behind}
use Rattle.remote_set.proofs.merging.first_repeated.Given as goal

abbrev pub invariant-loop-at : goal.invariant-loop-at
invariant-loop-at l = repeated_behind (take l.at l.remotes) (drop l.at l.remotes) ≡ first_repeated l.remotes
