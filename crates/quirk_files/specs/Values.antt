-- Which values can be read, and as what.
use Rattle.std.specs.Prelude.{ℕ, ◌==◌, nat_le, nat_lt, Bool, ◌&&◌, if◌then◌else◌, List, [], ◌∷◌, length, drop, slice_index, Option, Some, None, find}
use Rattle.std.specs.List.{list_all}
use Rattle.std.specs.Option.{option_map}
use Rattle.std.specs.Result.{result_ok}
use Rattle.std.specs.Char.{digit_value}
use Rattle.std.specs.Str.{bytes_eq}
use Rattle.std.specs.Str.Parse.{digits_value}
use Rattle.fw_base.specs.Decimals.{number_read}
use Rattle.fw_base.specs.Lines.{line_read}
use Rattle.fw_base.specs.Names.{name_read}
use Rattle.guid_ids.specs.Identifiers.{guid}
use Rattle.version_formats.specs.declared.format.Format.{Format}
use Rattle.version_formats.specs.declared.format.Format.TheVariants.{Plain, Number, Pair, Triplet, Quad, Bcd, DellBios, DellBiosMsb, SurfaceLegacy, Surface, IntelMe, IntelMe2, Hex}
use Rattle.version_formats.specs.Formats.{format_word}

-- ---- single values

-- A name, and a line.
abbrev pub name_of : List ℕ → Option (List ℕ)
name_of value = result_ok (name_read value)

abbrev pub line_of : List ℕ → Option (List ℕ)
line_of value = result_ok (line_read value)

-- The version formats, in their order.
abbrev pub all_formats : List Format
all_formats =
    Plain ∷ Number ∷ Pair ∷ Triplet ∷ Quad ∷ Bcd ∷ DellBios ∷ DellBiosMsb ∷ SurfaceLegacy ∷ Surface ∷ IntelMe ∷ IntelMe2 ∷ Hex ∷ []

-- The version format of a word.
abbrev pub format_of : List ℕ → Option Format
format_of value = find (λ format. bytes_eq (format_word format) value) all_formats

-- The value begins with `0x`.
abbrev pub is_hex : List ℕ → Bool
is_hex value = nat_le 2 (length value) && (slice_index value 0 == 48) && (slice_index value 1 == 120)

-- A hex digit of either case.
abbrev pub is_hex_digit : ℕ → Bool
is_hex_digit b = nat_lt (digit_value b) 16

-- The number of one to eight hex digits.
abbrev pub hex_number : List ℕ → Option ℕ
hex_number digits =
    if nat_le 1 (length digits) && nat_le (length digits) 8 && list_all is_hex_digit digits then Some (digits_value 16 digits) else None

-- A number: `0x` and hex digits, or decimal digits without a leading zero.
abbrev pub number_of : List ℕ → Option ℕ
number_of value = if is_hex value then hex_number (drop 2 value) else result_ok (number_read value)

-- A number up to the greatest.
abbrev pub within : ℕ → Option ℕ → Option ℕ
within most None = None
within most (Some number) = if nat_le number most then Some number else None

-- A payload's size, and a time in seconds.
abbrev pub size_of : List ℕ → Option ℕ
size_of value = within 4194304 (number_of value)

abbrev pub duration_of : List ℕ → Option ℕ
duration_of value = within 4294967295 (number_of value)

-- ---- elements of lists

-- The GUID of an element: a GUID, or an instance ID, which is a line.
abbrev pub guid_of_element : List ℕ → Option (List ℕ)
guid_of_element element = option_map guid (line_of element)
