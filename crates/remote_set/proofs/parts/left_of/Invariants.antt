use Rattle.std.proofs.Common.{◌≡◌, map}
use Rattle.remote_set.specs.Indexes.{is_offered_before}
use Rattle.remote_set.specs.Merged.{without}
use Rattle.remote_set.proofs.parts.left_of.Given as goal

abbrev pub invariant-loop-component : goal.invariant-loop-component
invariant-loop-component l = l.left.items ≡ map (without (is_offered_before l.index.entries l.rank)) l.yielded
