-- The numbers that a format writes, and what the code makes of those that it reads.
use Rattle.std.specs.Prelude.{◌≡◌, ℕ, ◌+◌, ◌-◌, ◌^◌, ◌<◌, ◌≤◌, Bool, true, false, List, [], ◌∷◌, length, map, drop, Option, Some, None, if◌then◌else◌}
use Rattle.std.specs.Char.{is_ascii_digit}
use Rattle.std.specs.List.{All}
use Rattle.std.specs.Option.{IsSomeAnd}
use Rattle.version_formats.specs.Formats.{bits, bcd, render}
use Rattle.version_formats.specs.VersionOrder.{Section, sections, same_version}
use Rattle.version_formats.specs.declared.format.Format.{Format}
use Rattle.version_formats.specs.declared.format.Format.TheVariants.{Plain, Number, Pair, Triplet, Quad, Bcd, DellBios, DellBiosMsb, SurfaceLegacy, Surface, IntelMe, IntelMe2, Hex}

-- The format writes hex digits.
abbrev pub is_hex : Format → Bool
is_hex Plain = false
is_hex Number = false
is_hex Pair = false
is_hex Triplet = false
is_hex Quad = false
is_hex Bcd = false
is_hex DellBios = false
is_hex DellBiosMsb = false
is_hex SurfaceLegacy = false
is_hex Surface = false
is_hex IntelMe = false
is_hex IntelMe2 = false
is_hex Hex = true

-- The numbers that a format writes for a raw number, with dots between them.
abbrev pub fields : Format → ℕ → List ℕ
fields Plain raw = raw ∷ []
fields Number raw = raw ∷ []
fields Pair raw = bits raw 16 16 ∷ bits raw 0 16 ∷ []
fields Triplet raw = bits raw 24 8 ∷ bits raw 16 8 ∷ bits raw 0 16 ∷ []
fields Quad raw = bits raw 24 8 ∷ bits raw 16 8 ∷ bits raw 8 8 ∷ bits raw 0 8 ∷ []
fields Bcd raw = bcd raw 24 ∷ bcd raw 16 ∷ bcd raw 8 ∷ bcd raw 0 ∷ []
fields DellBios raw = bits raw 16 8 ∷ bits raw 8 8 ∷ bits raw 0 8 ∷ []
fields DellBiosMsb raw = bits raw 24 8 ∷ bits raw 16 8 ∷ bits raw 8 8 ∷ []
fields SurfaceLegacy raw = bits raw 22 10 ∷ bits raw 10 12 ∷ bits raw 0 10 ∷ []
fields Surface raw = bits raw 24 8 ∷ bits raw 8 16 ∷ bits raw 0 8 ∷ []
fields IntelMe raw = (bits raw 29 3 + 11) ∷ bits raw 24 5 ∷ bits raw 16 8 ∷ bits raw 0 16 ∷ []
fields IntelMe2 raw = bits raw 28 4 ∷ bits raw 24 4 ∷ bits raw 16 8 ∷ bits raw 0 16 ∷ []
fields Hex raw = []

-- The section that is a number alone.
abbrev pub whole : ℕ → Section
whole number = record { number = number; rest = [] }

-- These are the numbers that the sections of a version are: at most four, of at most 32 bits each.
pub record AreNumbers (version numbers : List ℕ) : Type 0 where
  pub few : length numbers ≤ 4
  pub small : All (λ n. n < 2 ^ 32) numbers
  pub alone : sections version ≡ map whole numbers

-- The value of a decimal digit.
abbrev pub digit_of : ℕ → Option ℕ
digit_of byte = if is_ascii_digit byte then Some (byte - 48) else None

-- The last eight bytes of a text, or all where there are fewer.
abbrev pub last_eight : List ℕ → List ℕ
last_eight text = drop (length text - 8) text

-- Where any raw number has these fields, this number has them and is no greater.
pub record IsLeastWith (format : Format) (numbers : List ℕ) (number : ℕ) : Type 0 where
  pub same : (raw : ℕ) → raw < 2 ^ 32 → numbers ≡ fields format raw → fields format number ≡ numbers
  pub least : (raw : ℕ) → raw < 2 ^ 32 → numbers ≡ fields format raw → number ≤ raw

-- Where any raw number writes an equal text, the result is no greater and writes the same text.
abbrev pub IsLikely : Format → List ℕ → Option ℕ → Type 0
IsLikely format version result =
    (raw : ℕ) → raw < 2 ^ 32 → same_version (render format raw) version ≡ true
    → IsSomeAnd result (λ least. (least ≤ raw) × (render format least ≡ render format raw))
