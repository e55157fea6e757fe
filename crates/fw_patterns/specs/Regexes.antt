-- Regular expressions: how they are written, and which texts they stand for. The grammar goes from
-- characters up to classes, atoms, pieces, branches and whole expressions.
use Rattle.std.specs.Prelude.{◌≡◌, ◌⊎◌, ℕ, ◌≤◌, ◌==◌, Bool, true, false, ◌&&◌, ◌||◌, not, if◌then◌else◌, List, [], ◌∷◌, ◌++◌, codes}
use Rattle.std.specs.Char.{is_ascii_punctuation}
use Rattle.std.specs.List.{list_all, list_any}
use Rattle.fw_patterns.specs.Reading.{is_profile}
use Rattle.fw_patterns.specs.Relation.{InPattern}
use Rattle.fw_patterns.specs.declared.syntax.ByteRange.{ByteRange}
use Rattle.fw_patterns.specs.declared.syntax.Atom.{Atom}
use Rattle.fw_patterns.specs.declared.syntax.Atom.TheVariants.{Any, Byte, Class}
use Rattle.fw_patterns.specs.declared.syntax.Repeat.{Repeat}
use Rattle.fw_patterns.specs.declared.syntax.Repeat.TheVariants.{Once, AnyTimes, SomeTimes, AtMostOnce}
use Rattle.fw_patterns.specs.declared.syntax.Piece.{Piece}
use Rattle.fw_patterns.specs.declared.syntax.Branch.{Branch}

-- ---- characters

-- a byte by itself, or one that a backslash in front makes literal
pub record Character : Type 0 where
  pub escaped : Bool
  pub byte : ℕ

abbrev pub by_itself : ℕ → Character
by_itself byte = record { escaped = false; byte = byte }

-- whether a character is this byte by itself
abbrev pub is_mark : ℕ → Character → Bool
is_mark byte c = not c.escaped && c.byte == byte

-- punctuation is escaped; by itself stands each byte of a pattern but the backslash
abbrev pub is_character : Character → Bool
is_character c = if c.escaped then is_ascii_punctuation c.byte else is_profile c.byte && not (c.byte == 92)

-- the text of characters
abbrev pub spelled : List Character → List ℕ
spelled [] = []
spelled (c ∷ more) = if c.escaped then 92 ∷ c.byte ∷ spelled more else c.byte ∷ spelled more

-- a mark where it is asked for
abbrev pub mark_if : Bool → ℕ → List Character
mark_if asked byte = if asked then by_itself byte ∷ [] else []

-- ---- classes

-- what may be in a class: each character but a bracket by itself
abbrev pub is_member : Character → Bool
is_member c = c.escaped || not (c.byte == 91 || c.byte == 93)

-- one byte of a class; a `-` by itself only where it may be one
pub record WritesByte (dash : Bool) (range : ByteRange) (own : List Character) : Type 0 where
  pub byte : Character
  pub text : own ≡ byte ∷ []
  pub member : is_member byte ≡ true
  pub dashes : is_mark 45 byte ≡ true → dash ≡ true
  pub is : range ≡ record { low = byte.byte; high = byte.byte }

-- a range of bytes: the first, `-` and the last, which isn't below it; the first is a `-` by itself only
-- where it may be one
pub record WritesRange (dash : Bool) (range : ByteRange) (own : List Character) : Type 0 where
  pub from : Character
  pub to : Character
  pub text : own ≡ from ∷ by_itself 45 ∷ to ∷ []
  pub members : (is_member from && is_member to) ≡ true
  pub dashes : is_mark 45 from ≡ true → dash ≡ true
  pub rises : from.byte ≤ to.byte
  pub is : range ≡ record { low = from.byte; high = to.byte }

-- whether no more follow
abbrev pub is_last : List ByteRange → Bool
is_last [] = true
is_last (range ∷ more) = false

-- the members of a class, one behind the other. A `-` by itself is one only as the first or the last,
-- and begins a range only as the first.
abbrev pub WritesMembers : Bool → List ByteRange → List Character → Type 0
WritesMembers first [] own = own ≡ []
WritesMembers first (range ∷ more) own =
    (member : List Character) × (rest : List Character) × (own ≡ member ++ rest)
    × (WritesByte (first || is_last more) range member ⊎ WritesRange first range member)
    × WritesMembers false more rest

-- whether characters begin with this byte by itself
abbrev pub begins : ℕ → List Character → Bool
begins byte [] = false
begins byte (c ∷ more) = is_mark byte c

-- a class: members between brackets, at least one of them. A `^` in front of them negates it, so the first
-- member of a class that isn't negated is no `^` by itself.
pub record WritesClass (negated : Bool) (ranges : List ByteRange) (own : List Character) : Type 0 where
  pub members : List Character
  pub text : own ≡ by_itself 91 ∷ (mark_if negated 94 ++ (members ++ by_itself 93 ∷ []))
  pub each : WritesMembers true ranges members
  pub some : ranges ≡ [] → ⊥
  pub plain : negated ≡ false → begins 94 members ≡ false

-- ---- atoms, pieces, branches

-- what stands for itself outside a class: each character but these by themselves
abbrev pub is_literal : Character → Bool
is_literal c = c.escaped || not (list_any (λ mark. c.byte == mark) (codes ".*+?^$|(){}[]"))

-- `.` is any byte, a literal its own, a class one of its members or none of them
abbrev pub WritesAtom : Atom → List Character → Type 0
WritesAtom Any own = own ≡ by_itself 46 ∷ []
WritesAtom (Byte byte) own = (c : Character) × (own ≡ c ∷ []) × (is_literal c ≡ true) × (c.byte ≡ byte)
WritesAtom (Class negated ranges) own = WritesClass negated ranges own

-- `*` is any number of times, `+` once or more, `?` at most once
abbrev pub repeat_mark : Repeat → List Character
repeat_mark Once = []
repeat_mark AnyTimes = by_itself 42 ∷ []
repeat_mark SomeTimes = by_itself 43 ∷ []
repeat_mark AtMostOnce = by_itself 63 ∷ []

-- pieces, one behind the other: each is an atom and how often it may stand
abbrev pub WritesPieces : List Piece → List Character → Type 0
WritesPieces [] own = own ≡ []
WritesPieces (piece ∷ pieces) own =
    (atom : List Character) × (rest : List Character) × (own ≡ atom ++ (repeat_mark piece.repeat ++ rest))
    × WritesAtom piece.atom atom × WritesPieces pieces rest

-- a branch: its pieces, behind a `^` where it is tied to the start, in front of a `$` where it is tied to the end
pub record WritesBranch (branch : Branch) (own : List Character) : Type 0 where
  pub pieces : List Character
  pub text : own ≡ mark_if branch.from_start 94 ++ (pieces ++ mark_if branch.to_end 36)
  pub each : WritesPieces branch.pieces pieces

-- ---- expressions

-- further branches, each behind a `|`
abbrev pub WritesOthers : List Branch → List Character → Type 0
WritesOthers [] rest = rest ≡ []
WritesOthers (branch ∷ more) rest =
    (own : List Character) × (behind : List Character) × (rest ≡ by_itself 124 ∷ (own ++ behind))
    × WritesBranch branch own × WritesOthers more behind

-- branches between the bars: at least one
abbrev pub WritesBranches : List Branch → List Character → Type 0
WritesBranches [] all = ⊥
WritesBranches (branch ∷ more) all =
    (own : List Character) × (behind : List Character) × (all ≡ own ++ behind)
    × WritesBranch branch own × WritesOthers more behind

-- an expression is written for a pattern
pub record WritesRegex (pattern : List Branch) (regex : List ℕ) : Type 0 where
  pub characters : List Character
  pub text : regex ≡ spelled characters
  pub each : list_all is_character characters ≡ true
  pub branches : WritesBranches pattern characters

-- a text is an expression where it is written for some pattern
abbrev pub IsRegex : List ℕ → Type 0
IsRegex regex = (pattern : List Branch) × WritesRegex pattern regex

-- an expression stands for a text: some branch stands for a part of it, each piece for as many bytes of
-- its atom as it may have, and what is tied to the start or the end has its part there
pub record InRegex (regex : List ℕ) (text : List ℕ) : Type 0 where
  pub pattern : List Branch
  pub written : WritesRegex pattern regex
  pub within : InPattern pattern text
