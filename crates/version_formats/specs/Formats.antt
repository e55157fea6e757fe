-- The version formats: their words, and the text that each writes for a raw number.
use Rattle.std.specs.Prelude.{ℕ, ◌+◌, ◌*◌, ◌/◌, ◌%◌, ◌^◌, List, [], ◌∷◌, ◌++◌, map, codes, decimal}
use Rattle.std.specs.Int.{w32, to_be_bytes}
use Rattle.std.specs.List.{join_with_byte}
use Rattle.hex.specs.Hex.{encode_lower}
use Rattle.version_formats.specs.declared.format.Format.{Format}
use Rattle.version_formats.specs.declared.format.Format.TheVariants.{Plain, Number, Pair, Triplet, Quad, Bcd, DellBios, DellBiosMsb, SurfaceLegacy, Surface, IntelMe, IntelMe2, Hex}

-- the word of a format
unfoldable pub format_word : Format → List ℕ
format_word Plain = codes "plain"
format_word Number = codes "number"
format_word Pair = codes "pair"
format_word Triplet = codes "triplet"
format_word Quad = codes "quad"
format_word Bcd = codes "bcd"
format_word DellBios = codes "dell-bios"
format_word DellBiosMsb = codes "dell-bios-msb"
format_word SurfaceLegacy = codes "surface-legacy"
format_word Surface = codes "surface"
format_word IntelMe = codes "intel-me"
format_word IntelMe2 = codes "intel-me2"
format_word Hex = codes "hex"

-- the byte between two sections of a version
abbrev pub dot : ℕ
dot = 46

-- `count` bits of a number, of which the lowest has the place `low`
abbrev pub bits : ℕ → ℕ → ℕ → ℕ
bits raw low count = raw / 2 ^ low % 2 ^ count

-- the byte whose lowest bit has the place `low`, read as two decimal digits
abbrev pub bcd : ℕ → ℕ → ℕ
bcd raw low = 10 * bits raw (low + 4) 4 + bits raw low 4

-- decimal numbers with dots between them
abbrev pub dotted : List ℕ → List ℕ
dotted numbers = join_with_byte dot (map decimal numbers)

-- the text of a raw number of 32 bits
unfoldable pub render : Format → ℕ → List ℕ
render Plain raw = dotted (raw ∷ [])
render Number raw = dotted (raw ∷ [])
render Pair raw = dotted (bits raw 16 16 ∷ bits raw 0 16 ∷ [])
render Triplet raw = dotted (bits raw 24 8 ∷ bits raw 16 8 ∷ bits raw 0 16 ∷ [])
render Quad raw = dotted (bits raw 24 8 ∷ bits raw 16 8 ∷ bits raw 8 8 ∷ bits raw 0 8 ∷ [])
render Bcd raw = dotted (bcd raw 24 ∷ bcd raw 16 ∷ bcd raw 8 ∷ bcd raw 0 ∷ [])
render DellBios raw = dotted (bits raw 16 8 ∷ bits raw 8 8 ∷ bits raw 0 8 ∷ [])
render DellBiosMsb raw = dotted (bits raw 24 8 ∷ bits raw 16 8 ∷ bits raw 8 8 ∷ [])
render SurfaceLegacy raw = dotted (bits raw 22 10 ∷ bits raw 10 12 ∷ bits raw 0 10 ∷ [])
render Surface raw = dotted (bits raw 24 8 ∷ bits raw 8 16 ∷ bits raw 0 8 ∷ [])
render IntelMe raw = dotted ((bits raw 29 3 + 11) ∷ bits raw 24 5 ∷ bits raw 16 8 ∷ bits raw 0 16 ∷ [])
render IntelMe2 raw = dotted (bits raw 28 4 ∷ bits raw 24 4 ∷ bits raw 16 8 ∷ bits raw 0 16 ∷ [])
render Hex raw = codes "0x" ++ encode_lower (to_be_bytes w32 raw)
