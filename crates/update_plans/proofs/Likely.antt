-- What a version tells of the raw number whose text is equal to it.
use Rattle.std.proofs.Common.{◌≡◌, ℕ, zero, suc, ◌+◌, ◌-◌, ◌^◌, ◌<◌, ◌≤◌, ◌==◌, Bool, true, false, List, [], ◌∷◌, length, map, drop, Some, None, Ordering, Ok, refl, sym, ap, ◌∙◌, inl, inr, arith, length-drop}
use Rattle.std.proofs.lemmas.Bool.{cases_Bool, true≢false, false_from_ne_true}
use Rattle.std.proofs.lemmas.List.{drop-drop}
use Rattle.std.proofs.lemmas.List.Elements.{All-cons, All-nil}
use Rattle.std.proofs.lemmas.List.Splits.{join_with_byte-slice_split, slice_split-cons_no, slice_split-cons_yes}
use Rattle.std.specs.Int.{w32, to_be_bytes}
use Rattle.std.specs.List.{All, join_with_byte, onto_first, prefix_len, slice_split}
use Rattle.std.specs.Char.{is_ascii_digit}
use Rattle.std.specs.Ordering.{is_eq}
use Rattle.std.specs.declared.cmp.Ordering.TheVariants.{Less, Equal, Greater}
use Rattle.hex.specs.Hex.{decode_sized, encode_lower, lower_digits, IsBytes}
use Rattle.hex.proofs.HexLemmas.{decode_sized-encode_lower, length-encode_with}
use Rattle.version_formats.specs.Formats.{dot, dotted, render}
use Rattle.version_formats.specs.VersionOrder.{Section, section_of, sections, same_version, version_cmp}
use Rattle.version_formats.specs.declared.format.Format.{Format}
use Rattle.version_formats.specs.declared.format.Format.TheVariants.{Plain, Number, Pair, Triplet, Quad, Bcd, DellBios, DellBiosMsb, SurfaceLegacy, Surface, IntelMe, IntelMe2, Hex}
use Rattle.version_formats.proofs.VersionLaws.{sections-same}
use Rattle.update_plans.specs.Fields.{AreNumbers, IsLikely, fields, is_hex, last_eight}
use Rattle.update_plans.specs.RawNumbers.{raw_of}
use Rattle.update_plans.proofs.Least.{least_below-is, least_below-none}
use Rattle.update_plans.proofs.Sections.{sections-render, sections-hex}

abbrev is_dot : ℕ → Bool
is_dot b = b == dot

abbrev IsSmall : ℕ → Type 0
IsSmall n = n < 2 ^ 32

is_eq-equal : (o : Ordering) → is_eq o ≡ true → o ≡ Equal
is_eq-equal Less h = cc
is_eq-equal Equal h = refl
is_eq-equal Greater h = cc

-- equal versions have equal sections
pub same-sections : (left right : List ℕ) → same_version left right ≡ true → sections left ≡ sections right
same-sections left right h = sections-same left right (is_eq-equal (version_cmp left right) h)

-- the numbers of a version that is equal to a format's text
pub are_numbers : (format : Format) (raw : ℕ) (version : List ℕ) → is_hex format ≡ false → raw < 2 ^ 32
    → same_version (render format raw) version ≡ true → AreNumbers version (fields format raw)
are_numbers format raw version dotted h same =
    record {
      few = few format raw;
      small = small format raw h;
      alone = sym (same-sections (render format raw) version same) ∙ sections-render format raw dotted h;
    }
  where
    few : (format : Format) (raw : ℕ) → length (fields format raw) ≤ 4
    few Plain raw = omega arith
    few Number raw = omega arith
    few Pair raw = omega arith
    few Triplet raw = omega arith
    few Quad raw = omega arith
    few Bcd raw = omega arith
    few DellBios raw = omega arith
    few DellBiosMsb raw = omega arith
    few SurfaceLegacy raw = omega arith
    few Surface raw = omega arith
    few IntelMe raw = omega arith
    few IntelMe2 raw = omega arith
    few Hex raw = omega arith

    one : (a : ℕ) → a < 2 ^ 32 → All IsSmall (a ∷ [])
    one a p = All-cons IsSmall a [] p (All-nil IsSmall)

    two : (a b : ℕ) → a < 2 ^ 32 → b < 2 ^ 32 → All IsSmall (a ∷ b ∷ [])
    two a b p q = All-cons IsSmall a (b ∷ []) p (one b q)

    three : (a b c : ℕ) → a < 2 ^ 32 → b < 2 ^ 32 → c < 2 ^ 32 → All IsSmall (a ∷ b ∷ c ∷ [])
    three a b c p q r = All-cons IsSmall a (b ∷ c ∷ []) p (two b c q r)

    four : (a b c d : ℕ) → a < 2 ^ 32 → b < 2 ^ 32 → c < 2 ^ 32 → d < 2 ^ 32 → All IsSmall (a ∷ b ∷ c ∷ d ∷ [])
    four a b c d p q r s = All-cons IsSmall a (b ∷ c ∷ d ∷ []) p (three b c d q r s)

    small : (format : Format) (raw : ℕ) → raw < 2 ^ 32 → All IsSmall (fields format raw)
    small Plain raw h = one raw h
    small Number raw h = one raw h
    small Pair raw h = two _ _ (omega arith) (omega arith)
    small Triplet raw h = three _ _ _ (omega arith) (omega arith) (omega arith)
    small Quad raw h = four _ _ _ _ (omega arith) (omega arith) (omega arith) (omega arith)
    small Bcd raw h = four _ _ _ _ (omega arith) (omega arith) (omega arith) (omega arith)
    small DellBios raw h = three _ _ _ (omega arith) (omega arith) (omega arith)
    small DellBiosMsb raw h = three _ _ _ (omega arith) (omega arith) (omega arith)
    small SurfaceLegacy raw h = three _ _ _ (omega arith) (omega arith) (omega arith)
    small Surface raw h = three _ _ _ (omega arith) (omega arith) (omega arith)
    small IntelMe raw h = four _ _ _ _ (omega arith) (omega arith) (omega arith) (omega arith)
    small IntelMe2 raw h = four _ _ _ _ (omega arith) (omega arith) (omega arith) (omega arith)
    small Hex raw h = All-nil IsSmall

-- equal fields are written alike
render-dotted : (format : Format) (raw : ℕ) → is_hex format ≡ false → render format raw ≡ dotted (fields format raw)
unfolding render
render-dotted Hex raw h = cc
render-dotted _ raw h = refl

pub render-fields : (format : Format) (left right : ℕ) → is_hex format ≡ false → fields format left ≡ fields format right → render format left ≡ render format right
render-fields format left right h e = render-dotted format left h ∙ ap dotted e ∙ sym (render-dotted format right h)

-- ---- hex digits

parts-nonempty : (text : List ℕ) → (first : List ℕ) × (more : List (List ℕ)) × (slice_split is_dot text ≡ first ∷ more)
parts-nonempty [] = ([], [], refl)
parts-nonempty (c ∷ cs) =
    let behind = parts-nonempty cs in
    elim (cases_Bool (is_dot c)) [
      | inl at_dot ↦ ([], slice_split is_dot cs, slice_split-cons_yes is_dot c cs at_dot)
      | inr other ↦ (c ∷ behind.0, behind.1, slice_split-cons_no is_dot c cs other ∙ ap (onto_first c) behind.2)
    ]

-- a version of one section is that section
one_section : (version : List ℕ) (s : Section) → sections version ≡ s ∷ [] → section_of version ≡ s
unfolding sections
one_section version s h =
    let parts = parts-nonempty version in
    go version parts.0 parts.1 parts.2 (sym (ap (map section_of) parts.2) ∙ h)
  where
    go : (version first : List ℕ) (more : List (List ℕ)) → slice_split is_dot version ≡ first ∷ more → map section_of (first ∷ more) ≡ s ∷ []
        → section_of version ≡ s
    go version first [] split e =
        let whole_text : version ≡ first = sym (join_with_byte-slice_split dot version) ∙ ap (join_with_byte dot) split in
        let that : section_of first ≡ s = cc in
        ap section_of whole_text ∙ that
    go version first (second ∷ more) split e = cc

-- what stands behind a front is what stands behind its last byte
behind_front : (text front : List ℕ) (k c : ℕ) → drop k text ≡ c ∷ front → length front ≡ 8 → last_eight text ≡ front
behind_front text front k c h e =
    let long : length text - k ≡ 9 = sym (length-drop k text) ∙ ap length h ∙ grind (arith, e) in
    let place : length text - 8 ≡ k + 1 = omega arith in
    ap (λ (n : ℕ). drop n text) place ∙ drop_more text k c front h
  where
    drop_more : (text : List ℕ) (k c : ℕ) (front : List ℕ) → drop k text ≡ c ∷ front → drop (k + 1) text ≡ front
    drop_more text k c front h = sym (drop-drop 1 k text) ∙ ap (drop 1) h

pub last_eight-hex : (raw : ℕ) (version : List ℕ) → same_version (render Hex raw) version ≡ true → last_eight version ≡ encode_lower (to_be_bytes w32 raw)
unfolding render
last_eight-hex raw version same =
    let digits = encode_lower (to_be_bytes w32 raw) in
    let told : sections version ≡ record { number = 0; rest = 120 ∷ digits } ∷ [] =
    sym (same-sections (render Hex raw) version same) ∙ sections-hex (to_be_bytes w32 raw) in
    let rest : drop (prefix_len is_ascii_digit version) version ≡ 120 ∷ digits =
    ap (λ (s : Section). s.rest) (one_section version (record { number = 0; rest = 120 ∷ digits }) told) in
    behind_front version digits (prefix_len is_ascii_digit version) 120 rest (length-encode_with lower_digits (to_be_bytes w32 raw))

-- a format's hex digits decode into the raw number
pub decoded-hex : (raw : ℕ) (version : List ℕ) → raw < 2 ^ 32 → same_version (render Hex raw) version ≡ true
    → decode_sized (last_eight version) 4 ≡ Ok (to_be_bytes w32 raw)
decoded-hex raw version h same =
    ap (λ (text : List ℕ). decode_sized text 4) (last_eight-hex raw version same)
    ∙ decode_sized-encode_lower (to_be_bytes w32 raw) 4 refl (are_bytes raw h)
  where
    are_bytes : (raw : ℕ) → raw < 2 ^ 32 → IsBytes (to_be_bytes w32 raw)
    are_bytes raw h zero = omega arith
    are_bytes raw h (suc zero) = omega arith
    are_bytes raw h (suc (suc zero)) = omega arith
    are_bytes raw h (suc (suc (suc zero))) = omega arith
    are_bytes raw h (suc (suc (suc (suc k)))) = omega arith

-- ---- the least raw number

-- where none is likely there is none
pub raw_of-none : (format : Format) (version : List ℕ) → IsLikely format version None → raw_of format version ≡ None
unfolding raw_of
raw_of-none format version likely =
    least_below-none (λ raw. same_version (render format raw) version) (2 ^ 32) (λ raw h. false_from_ne_true _ (λ same. likely raw h same))

-- the likely one is it, where its text is equal to the version
pub raw_of-some : (format : Format) (version : List ℕ) (raw : ℕ) → raw < 2 ^ 32 → IsLikely format version (Some raw) → same_version (render format raw) version ≡ true
    → raw_of format version ≡ Some raw
unfolding raw_of
raw_of-some format version raw small likely same =
    least_below-is (λ raw. same_version (render format raw) version) (2 ^ 32) raw small same
    (λ lower h. false_from_ne_true _ (λ passes. absurd (omega (arith, (likely lower (omega arith) passes).0))))

-- and else there is none
pub raw_of-not : (format : Format) (version : List ℕ) (raw : ℕ) → IsLikely format version (Some raw) → same_version (render format raw) version ≡ false
    → raw_of format version ≡ None
unfolding raw_of
raw_of-not format version raw likely other =
    least_below-none (λ raw. same_version (render format raw) version) (2 ^ 32)
    (λ n h. false_from_ne_true _ (λ passes.
    true≢false (sym (ap (λ (text : List ℕ). same_version text version) ((likely n h passes).1) ∙ passes) ∙ other)))
