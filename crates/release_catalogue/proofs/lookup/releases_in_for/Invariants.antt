use Rattle.std.proofs.Common.{◌≡◌, ◌++◌, drop}
use Rattle.release_catalogue.specs.Places.{matching_places}
use Rattle.release_catalogue.proofs.Lookups.{places_from}
use Rattle.release_catalogue.proofs.lookup.releases_in_for.Given as goal

abbrev pub invariant-loop-at : goal.invariant-loop-at
invariant-loop-at l = l.places.items ++ places_from l.guids l.at (drop l.at l.components) ≡ matching_places l.components l.guids
