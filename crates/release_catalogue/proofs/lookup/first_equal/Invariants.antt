use Rattle.std.proofs.Common.{◌≡◌, drop}
use Rattle.release_catalogue.specs.Places.{first_equal}
use Rattle.release_catalogue.proofs.lookup.first_equal.Given as goal

abbrev pub invariant-loop-place : goal.invariant-loop-place
invariant-loop-place l = first_equal l.version l.place (drop l.place l.releases) ≡ first_equal l.version 0 l.releases
