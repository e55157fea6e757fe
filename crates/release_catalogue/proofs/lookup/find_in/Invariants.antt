use Rattle.std.proofs.Common.{◌≡◌, drop}
use Rattle.release_catalogue.proofs.Lookups.{found_from}
use Rattle.release_catalogue.proofs.lookup.find_in.Given as goal

abbrev pub invariant-loop-at : goal.invariant-loop-at
invariant-loop-at l = found_from l.guids l.version l.at (drop l.at l.components) ≡ found_from l.guids l.version 0 l.components
