-- The pattern relation, decided: a text is in a pattern where some of its cuts are. It tries every
-- cut, and is here so that definitions can ask; `matches` gives the same answer in one pass.
use Rattle.std.specs.Prelude.{ℕ, Bool, true, not, ◌&&◌, ◌||◌, ◌==◌, nat_lt, nat_le, List, [], ◌∷◌, length, map}
use Rattle.std.specs.List.{list_all, list_any}
use Rattle.fw_patterns.specs.declared.syntax.Repeat.{Repeat}
use Rattle.fw_patterns.specs.declared.syntax.Repeat.TheVariants.{Once, AnyTimes, SomeTimes, AtMostOnce}
use Rattle.fw_patterns.specs.declared.syntax.Piece.{Piece}
use Rattle.fw_patterns.specs.declared.syntax.Branch.{Branch}
use Rattle.fw_patterns.specs.Relation.{stands_for}

-- all cuts of a text in two
abbrev pub cuts : List ℕ → List (List ℕ × List ℕ)
cuts [] = ([], []) ∷ []
cuts (b ∷ text) = ([], b ∷ text) ∷ map (λ cut. (b ∷ cut.0, cut.1)) (cuts text)

-- a piece's atom may stand as often
abbrev pub may_stand : Repeat → ℕ → Bool
may_stand Once n = n == 1
may_stand AnyTimes n = true
may_stand SomeTimes n = nat_lt 0 n
may_stand AtMostOnce n = nat_le n 1

-- the piece stands for the part
abbrev pub stands : Piece → List ℕ → Bool
stands piece part = list_all (stands_for piece.atom) part && may_stand piece.repeat (length part)

-- pieces stand for the part, one behind the other
abbrev pub follow : List Piece → List ℕ → Bool
follow [] part = length part == 0
follow (piece ∷ pieces) part = list_any (λ cut. stands piece cut.0 && follow pieces cut.1) (cuts part)

-- the branch stands for the text
abbrev pub in_branch : Branch → List ℕ → Bool
in_branch branch text =
    list_any
    (λ start. (not branch.from_start || (length start.0 == 0))
    && list_any (λ end. (not branch.to_end || (length end.1 == 0)) && follow branch.pieces end.0) (cuts start.1))
    (cuts text)

-- the pattern stands for the text
unfoldable pub in_pattern : List Branch → List ℕ → Bool
in_pattern pattern text = list_any (λ branch. in_branch branch text) pattern
