-- Version order: versions are compared by their sections.
use Rattle.std.specs.Prelude.{ℕ, Bool, ◌+◌, ◌==◌, if◌then◌else◌, List, [], ◌∷◌, ◌++◌, map, drop, take_while}
use Rattle.std.specs.Char.{is_ascii_digit}
use Rattle.std.specs.Cmp.Lexicographic.{slice_cmp}
use Rattle.std.specs.List.{prefix_len, slice_split}
use Rattle.std.specs.Ordering.{nat_cmp, ordering_then, is_eq}
use Rattle.std.specs.declared.cmp.Ordering.{Ordering}
use Rattle.std.specs.Str.Parse.{digits_value}
use Rattle.version_formats.specs.Formats.{dot}

-- a section of a version: a number without upper bound, and what follows it
pub record Section : Type 0 where
  pub number : ℕ
  pub rest : List ℕ

-- the section that a text is: its leading decimal digits as a number, 0 where there are none, and the rest
abbrev pub section_of : List ℕ → Section
section_of text =
    record {
      number = digits_value 10 (take_while is_ascii_digit text);
      rest = drop (prefix_len is_ascii_digit text) text;
    }

-- a version is split at every dot
unfoldable pub sections : List ℕ → List Section
sections version = map section_of (slice_split (λ b. b == dot) version)

-- the byte `~`
abbrev pub tilde : ℕ
tilde = 126

-- the place of a byte in the order of rests: `~` stands below the end of the text, every other byte above it
abbrev pub byte_rank : ℕ → ℕ
byte_rank b = if b == tilde then 0 else b + 2

-- the place of the end of the text
abbrev pub end_rank : ℕ
end_rank = 1

-- the ranks of a rest and of its end
abbrev pub ranks : List ℕ → List ℕ
ranks rest = map byte_rank rest ++ end_rank ∷ []

-- rests are compared byte by byte, up to and with the end
abbrev pub rest_cmp : List ℕ → List ℕ → Ordering
rest_cmp left right = slice_cmp nat_cmp (ranks left) (ranks right)

-- sections are compared by number, then by rest
abbrev pub section_cmp : Section → Section → Ordering
section_cmp left right = ordering_then (nat_cmp left.number right.number) (rest_cmp left.rest right.rest)

-- versions are compared by their first differing section, and one whose sections begin the other's is lower
unfoldable pub version_cmp : List ℕ → List ℕ → Ordering
version_cmp left right = slice_cmp section_cmp (sections left) (sections right)

-- two versions are equal in this order
abbrev pub same_version : List ℕ → List ℕ → Bool
same_version left right = is_eq (version_cmp left right)
