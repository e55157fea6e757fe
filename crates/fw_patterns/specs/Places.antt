-- Places in a pattern, read against a text from its end: what the private functions of matching answer.
use Rattle.std.specs.Prelude.{◌≡◌, ℕ, ◌≤◌, Bool, true, false, ◌&&◌, ◌||◌, not, List, [], ◌∷◌, length, drop, get_or}
use Rattle.std.specs.List.{list_any}
use Rattle.fw_patterns.specs.Relation.{stands_for}
use Rattle.fw_patterns.specs.declared.syntax.Repeat.{Repeat}
use Rattle.fw_patterns.specs.declared.syntax.Repeat.TheVariants.{Once, AnyTimes, SomeTimes, AtMostOnce}
use Rattle.fw_patterns.specs.declared.syntax.Piece.{Piece}
use Rattle.fw_patterns.specs.declared.syntax.Branch.{Branch}

-- whether an atom may stand not at all
abbrev pub may_be_none : Repeat → Bool
may_be_none Once = false
may_be_none AnyTimes = true
may_be_none SomeTimes = false
may_be_none AtMostOnce = true

-- whether a piece and what follows it stand at a byte: by whether its atom stands for that byte, whether they
-- stand behind it again, and whether what follows stands behind it and at it
abbrev pub at_byte : Repeat → Bool → Bool → Bool → Bool → Bool
at_byte Once stands again behind skipped = stands && behind
at_byte AnyTimes stands again behind skipped = skipped || stands && again
at_byte SomeTimes stands again behind skipped = stands && (again || behind)
at_byte AtMostOnce stands again behind skipped = skipped || stands && behind

-- whether a piece and what follows it stand at what is left of a text
abbrev pub piece_at : Piece → (List ℕ → Bool) → List ℕ → Bool
piece_at piece follows [] = may_be_none piece.repeat && follows []
piece_at piece follows (b ∷ left) =
    at_byte piece.repeat (stands_for piece.atom b) (piece_at piece follows left) (follows left) (follows (b ∷ left))

-- whether a match may end at what is left of a text
abbrev pub end_at : Bool → List ℕ → Bool
end_at to_end [] = true
end_at to_end (b ∷ left) = not to_end

-- whether pieces stand at what is left of a text
abbrev pub pieces_at : Bool → List Piece → List ℕ → Bool
pieces_at to_end [] left = end_at to_end left
pieces_at to_end (piece ∷ pieces) left = piece_at piece (pieces_at to_end pieces) left

-- places tell which ends of the pieces stand at what is left of a text
abbrev pub Tell : Bool → List Piece → List ℕ → List Bool → Type 0
Tell to_end pieces left places = (j : ℕ) → j ≤ length pieces → get_or places j false ≡ pieces_at to_end (drop j pieces) left

-- whether a branch stands somewhere in a text, or at its start where it is tied to it
abbrev pub branch_at : Branch → List ℕ → Bool
branch_at branch [] = pieces_at branch.to_end branch.pieces []
branch_at branch (b ∷ left) =
    pieces_at branch.to_end branch.pieces (b ∷ left) || not branch.from_start && branch_at branch left

-- whether some branch does
abbrev pub some_branch : List Branch → List ℕ → Bool
some_branch pattern text = list_any (λ branch. branch_at branch text) pattern
