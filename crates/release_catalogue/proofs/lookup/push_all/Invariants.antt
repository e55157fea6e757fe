use Rattle.std.proofs.Common.{◌≡◌, ◌++◌, drop, map}
use Rattle.std.specs.List.{enumerate_from}
use Rattle.release_catalogue.proofs.lookup.push_all.Given as goal

abbrev pub invariant-loop-release : goal.invariant-loop-release
invariant-loop-release l =
    l.places.items ++ map (λ entry. record { component = l.component; release = entry.0 }) (enumerate_from l.release (drop l.release l.releases))
    ≡ l.fn.places.items ++ map (λ entry. record { component = l.component; release = entry.0 }) (enumerate_from 0 l.releases)
