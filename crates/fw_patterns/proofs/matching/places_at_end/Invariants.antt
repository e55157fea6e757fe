use Rattle.std.proofs.Common.{◌≡◌, ◌≤◌, Bool, [], length}
use Rattle.fw_patterns.proofs.PlaceLemmas.{TellFrom}
use Rattle.fw_patterns.proofs.matching.places_at_end.Given as goal

abbrev pub invariant-loop-at : goal.invariant-loop-at
invariant-loop-at l =
    (l.at ≤ length l.pieces)
    × (length l.places ≡ length l.fn.places)
    × ((to_end : Bool) → TellFrom l.at to_end l.pieces [] l.places)

-- proposed from the loop's first test
abbrev pub decreases-loop-at : goal.decreases-loop-at
decreases-loop-at l = l.at
