use Rattle.std.proofs.Common.{◌≡◌, ◌≤◌, length, drop}
use Rattle.fw_patterns.specs.Places.{Tell, branch_at}
use Rattle.fw_patterns.proofs.matching.branch_matches.Given as goal

abbrev pub invariant-loop-left : goal.invariant-loop-left
invariant-loop-left l =
    (l.left ≤ length l.text)
    × (length l.places ≡ 256)
    × Tell l.branch.to_end l.branch.pieces (drop l.left l.text) l.places
    × (l.found ≡ branch_at l.branch (drop l.left l.text))

-- proposed from the loop's first test
abbrev pub decreases-loop-left : goal.decreases-loop-left
decreases-loop-left l = l.left
