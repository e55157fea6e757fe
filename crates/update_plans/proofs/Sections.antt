-- The sections of the texts that formats write.
use Rattle.std.proofs.Common.{◌≡◌, ℕ, ◌+◌, ◌<◌, ◌≤◌, ◌/◌, ◌%◌, ◌^◌, ◌==◌, Bool, true, false, not, inl, inr, List, [], ◌∷◌, length, map, take, drop, get_or, slice_index, decimal, refl, ap, ◌∙◌, arith}
use Rattle.std.proofs.lemmas.Bool.{cases_lt, not-true}
use Rattle.std.proofs.lemmas.Bool.Decides.{nat_tests}
use Rattle.std.proofs.lemmas.Fmt.{decimal_is_IsNumeral}
use Rattle.std.proofs.lemmas.List.{take_all, drop_all, get_or_past}
use Rattle.std.proofs.lemmas.List.Elements.{All-cons, All-nil, All-from_get_or}
use Rattle.std.proofs.lemmas.List.Splits.{slice_split_at, slice_split_none}
use Rattle.std.proofs.lemmas.List.Sums.{AllPass-from_list_all, prefix_len_is}
use Rattle.std.proofs.lemmas.Str.Parse.{digit_at}
use Rattle.std.specs.Char.{is_ascii_digit}
use Rattle.std.specs.List.{All, prefix_len, slice_split}
use Rattle.std.specs.Str.Parse.{AllDigits, digits_value}
use Rattle.hex.specs.Hex.{encode_lower, encode_with, lower_digits}
use Rattle.version_formats.specs.Formats.{bits, bcd, dot, dotted, render}
use Rattle.version_formats.specs.VersionOrder.{Section, section_of, sections}
use Rattle.version_formats.specs.declared.format.Format.{Format}
use Rattle.version_formats.specs.declared.format.Format.TheVariants.{Plain, Number, Pair, Triplet, Quad, Bcd, DellBios, DellBiosMsb, SurfaceLegacy, Surface, IntelMe, IntelMe2, Hex}
use Rattle.update_plans.specs.Fields.{fields, is_hex, whole}

abbrev is_dot : ℕ → Bool
is_dot b = b == dot

abbrev no_dot : ℕ → Type 0
no_dot b = is_dot b ≡ false

-- ---- a number as a section

digit_passes : (c : ℕ) → 48 ≤ c → c ≤ 57 → (is_ascii_digit c ≡ true) × (is_dot c ≡ false)
digit_passes c low high = (grind (arith, nat_tests), grind (arith, nat_tests))

passes_at : (digits : List ℕ) (k : ℕ) → AllDigits 10 digits → k < length digits
    → (is_ascii_digit (get_or digits k 0) ≡ true) × (is_dot (get_or digits k 0) ≡ false)
passes_at digits k all h =
    let range = digit_at digits k all h in
    digit_passes (get_or digits k 0) range.0 range.1

section_of-digits : (digits : List ℕ) → AllDigits 10 digits → section_of digits ≡ whole (digits_value 10 digits)
section_of-digits digits all =
    let whole_length : prefix_len is_ascii_digit digits ≡ length digits =
    prefix_len_is is_ascii_digit digits (length digits) 0 (omega arith) (λ k h. (passes_at digits k all h).0) (λ h. absurd (omega arith)) in
    let taken : take (length digits) digits ≡ digits = take_all (length digits) digits (omega arith) in
    let nothing : drop (length digits) digits ≡ [] = drop_all (length digits) digits (omega arith) in
    rw (whole_length, taken, nothing) refl

no_dots : (digits : List ℕ) → AllDigits 10 digits → All no_dot digits
no_dots digits all = All-from_get_or (λ b. is_dot b ≡ false) digits 0 (λ k h. (passes_at digits k all h).1)

-- ---- numbers with dots between them

abbrev Small : List ℕ → Type 0
Small [] = Unit {0}
Small (n ∷ ns) = (n < 2 ^ 64) × Small ns

parts_of-dotted : (n : ℕ) (ns : List ℕ) → Small (n ∷ ns) → slice_split is_dot (dotted (n ∷ ns)) ≡ map decimal (n ∷ ns)
parts_of-dotted n [] small =
    slice_split_none is_dot (decimal n) (no_dots (decimal n) (decimal_is_IsNumeral n small.0).0.1)
parts_of-dotted n (m ∷ ns) small =
    slice_split_at is_dot (decimal n) dot (dotted (m ∷ ns)) (no_dots (decimal n) (decimal_is_IsNumeral n small.0).0.1) refl
    ∙ ap (λ (parts : List (List ℕ)). decimal n ∷ parts) (parts_of-dotted m ns small.1)

section_of-decimal : (n : ℕ) → n < 2 ^ 64 → section_of (decimal n) ≡ whole n
section_of-decimal n small =
    let numeral = decimal_is_IsNumeral n small in
    section_of-digits (decimal n) numeral.0.1 ∙ ap whole numeral.1

sections_of-decimals : (ns : List ℕ) → Small ns → map section_of (map decimal ns) ≡ map whole ns
sections_of-decimals [] small = refl
sections_of-decimals (n ∷ ns) small =
    ap (λ (s : Section). s ∷ map section_of (map decimal ns)) (section_of-decimal n small.0)
    ∙ ap (λ (s : List Section). whole n ∷ s) (sections_of-decimals ns small.1)

sections-dotted : (n : ℕ) (ns : List ℕ) → Small (n ∷ ns) → sections (dotted (n ∷ ns)) ≡ map whole (n ∷ ns)
unfolding sections
sections-dotted n ns small = ap (map section_of) (parts_of-dotted n ns small) ∙ sections_of-decimals (n ∷ ns) small

-- the sections of each format's text but that of hex digits
pub sections-render : (format : Format) (raw : ℕ) → is_hex format ≡ false → raw < 2 ^ 32 → sections (render format raw) ≡ map whole (fields format raw)
unfolding render
sections-render Plain r _ h = sections-dotted r [] (omega arith, tt)
sections-render Number r _ h = sections-dotted r [] (omega arith, tt)
sections-render Pair r _ h = sections-dotted (bits r 16 16) (bits r 0 16 ∷ []) (omega arith, (omega arith, tt))
sections-render Triplet r _ h = sections-dotted (bits r 24 8) (bits r 16 8 ∷ bits r 0 16 ∷ []) (omega arith, (omega arith, (omega arith, tt)))
sections-render Quad r _ h =
    sections-dotted (bits r 24 8) (bits r 16 8 ∷ bits r 8 8 ∷ bits r 0 8 ∷ []) (omega arith, (omega arith, (omega arith, (omega arith, tt))))
sections-render Bcd r _ h =
    sections-dotted (bcd r 24) (bcd r 16 ∷ bcd r 8 ∷ bcd r 0 ∷ []) (omega arith, (omega arith, (omega arith, (omega arith, tt))))
sections-render DellBios r _ h = sections-dotted (bits r 16 8) (bits r 8 8 ∷ bits r 0 8 ∷ []) (omega arith, (omega arith, (omega arith, tt)))
sections-render DellBiosMsb r _ h = sections-dotted (bits r 24 8) (bits r 16 8 ∷ bits r 8 8 ∷ []) (omega arith, (omega arith, (omega arith, tt)))
sections-render SurfaceLegacy r _ h = sections-dotted (bits r 22 10) (bits r 10 12 ∷ bits r 0 10 ∷ []) (omega arith, (omega arith, (omega arith, tt)))
sections-render Surface r _ h = sections-dotted (bits r 24 8) (bits r 8 16 ∷ bits r 0 8 ∷ []) (omega arith, (omega arith, (omega arith, tt)))
sections-render IntelMe r _ h =
    sections-dotted (bits r 29 3 + 11) (bits r 24 5 ∷ bits r 16 8 ∷ bits r 0 16 ∷ []) (omega arith, (omega arith, (omega arith, (omega arith, tt))))
sections-render IntelMe2 r _ h =
    sections-dotted (bits r 28 4) (bits r 24 4 ∷ bits r 16 8 ∷ bits r 0 16 ∷ []) (omega arith, (omega arith, (omega arith, (omega arith, tt))))
sections-render Hex r dotted h = cc

-- ---- hex digits

-- no hex digit is a dot
hex_digit-no_dot : (k : ℕ) → is_dot (slice_index lower_digits k) ≡ false
hex_digit-no_dot k =
    elim (cases_lt k 16) [
      | inl within ↦ not-true (is_dot (slice_index lower_digits k)) (AllPass-from_list_all (λ b. not (is_dot b)) lower_digits refl k 0 within)
      | inr past ↦ ap is_dot (get_or_past lower_digits k 0 past)
    ]

no_dots-hex : (bytes : List ℕ) → All no_dot (encode_lower bytes)
unfolding encode_with
no_dots-hex [] = All-nil no_dot
no_dots-hex (b ∷ bytes) =
    All-cons no_dot (slice_index lower_digits (b / 16)) (slice_index lower_digits (b % 16) ∷ encode_lower bytes) (hex_digit-no_dot (b / 16))
    (All-cons no_dot (slice_index lower_digits (b % 16)) (encode_lower bytes) (hex_digit-no_dot (b % 16)) (no_dots-hex bytes))

-- the text of hex digits is one section, whose number is 0
pub sections-hex : (bytes : List ℕ) → sections (48 ∷ 120 ∷ encode_lower bytes) ≡ record { number = 0; rest = 120 ∷ encode_lower bytes } ∷ []
unfolding sections
sections-hex bytes =
    ap (map section_of) (slice_split_none is_dot (48 ∷ 120 ∷ encode_lower bytes) (All-cons no_dot 48 (120 ∷ encode_lower bytes) refl (All-cons no_dot 120 (encode_lower bytes) refl (no_dots-hex bytes))))
