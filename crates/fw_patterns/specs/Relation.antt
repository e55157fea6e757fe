-- The pattern relation: which texts a pattern stands for. It speaks of cuts of the text alone.
use Rattle.std.specs.Prelude.{◌≡◌, ℕ, ◌<◌, ◌≤◌, ◌==◌, nat_le, Bool, true, ◌&&◌, not, if◌then◌else◌, List, [], ◌∷◌, ◌++◌, length, Any, All, MatchBool}
use Rattle.std.specs.List.{list_all, list_any}
use Rattle.fw_patterns.specs.declared.syntax.ByteRange.{ByteRange}
use Rattle.fw_patterns.specs.declared.syntax.Atom.{Atom}
use Rattle.fw_patterns.specs.declared.syntax.Atom.TheVariants.{Any as AnyByte, Byte, Class}
use Rattle.fw_patterns.specs.declared.syntax.Repeat.{Repeat}
use Rattle.fw_patterns.specs.declared.syntax.Repeat.TheVariants.{Once, AnyTimes, SomeTimes, AtMostOnce}
use Rattle.fw_patterns.specs.declared.syntax.Piece.{Piece}
use Rattle.fw_patterns.specs.declared.syntax.Branch.{Branch}

-- the bytes from the first to the last of a range, both among them
abbrev pub in_range : ByteRange → ℕ → Bool
in_range range byte = nat_le range.low byte && nat_le byte range.high

-- the bytes that an atom stands for
abbrev pub stands_for : Atom → ℕ → Bool
stands_for AnyByte byte = true
stands_for (Byte own) byte = byte == own
stands_for (Class negated ranges) byte =
    if negated then not (list_any (λ range. in_range range byte) ranges) else list_any (λ range. in_range range byte) ranges

-- how often a piece's atom may stand
abbrev pub Times : Repeat → ℕ → Type 0
Times Once n = n ≡ 1
Times AnyTimes n = Unit {0}
Times SomeTimes n = 0 < n
Times AtMostOnce n = n ≤ 1

-- a piece stands for a part: bytes that its atom stands for, as many as it may have
pub record Stands (piece : Piece) (part : List ℕ) : Type 0 where
  pub bytes : list_all (stands_for piece.atom) part ≡ true
  pub times : Times piece.repeat (length part)

-- pieces stand for a part: it is cut into one part for each, in their order
abbrev pub Follow : List Piece → List ℕ → Type 0
Follow [] part = part ≡ []
Follow (piece ∷ pieces) part =
    (first : List ℕ) × (rest : List ℕ) × (part ≡ first ++ rest) × Stands piece first × Follow pieces rest

-- a branch stands for a text: its pieces stand for a part of it, which a branch that is tied to the
-- start or the end has there
pub record InBranch (branch : Branch) (text : List ℕ) : Type 0 where
  pub before : List ℕ
  pub part : List ℕ
  pub after : List ℕ
  pub cut : text ≡ before ++ part ++ after
  pub follow : Follow branch.pieces part
  pub starts : branch.from_start ≡ true → before ≡ []
  pub ends : branch.to_end ≡ true → after ≡ []

-- a pattern stands for a text where some branch does
abbrev pub InPattern : List Branch → List ℕ → Type 0
InPattern pattern text = Any (λ branch. InBranch branch text) pattern

-- a glob stands for a text: `*` for any part, `?` for one byte, another byte for itself, one behind the other
abbrev pub InGlob : List ℕ → List ℕ → Type 0
InGlob [] text = text ≡ []
InGlob (b ∷ more) text =
    MatchBool (b == 42)
    ((part : List ℕ) × (rest : List ℕ) × (text ≡ part ++ rest) × InGlob more rest)
    (MatchBool (b == 63)
    ((c : ℕ) × (rest : List ℕ) × (text ≡ c ∷ rest) × InGlob more rest)
    ((rest : List ℕ) × (text ≡ b ∷ rest) × InGlob more rest))

-- no branch has more pieces than a pattern has bytes
abbrev pub AllShort : List Branch → Type 0
AllShort pattern = All (λ branch. length branch.pieces ≤ 255) pattern
