use Rattle.std.proofs.Common.{◌≡◌, ◌-◌, [], map}
use Rattle.std.specs.List.{range_with_len}
use Rattle.site_making.proofs.making.no_features.Given as goal

abbrev pub invariant-loop-client : goal.invariant-loop-client
invariant-loop-client l = l.features.items ≡ map (λ client. []) (range_with_len 1 (l._client - 1))
