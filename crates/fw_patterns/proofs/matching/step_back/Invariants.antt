use Rattle.std.proofs.Common.{◌≡◌, ◌≤◌, ◌<◌, ℕ, List, ◌∷◌, length, get_or, false}
use Rattle.fw_patterns.specs.Places.{Tell}
use Rattle.fw_patterns.proofs.PlaceLemmas.{TellFrom}
use Rattle.fw_patterns.proofs.matching.step_back.Given as goal

abbrev pub invariant-loop-at : goal.invariant-loop-at
invariant-loop-at l =
    (l.at ≤ length l.pieces)
    × (length l.places ≡ length l.fn.places)
    × (l.behind ≡ get_or l.fn.places l.at false)
    × ((j : ℕ) → j < l.at → get_or l.places j false ≡ get_or l.fn.places j false)
    × ((left : List ℕ) → Tell l.to_end l.pieces left l.fn.places → TellFrom l.at l.to_end l.pieces (l.byte ∷ left) l.places)

-- proposed from the loop's first test
abbrev pub decreases-loop-at : goal.decreases-loop-at
decreases-loop-at l = l.at
