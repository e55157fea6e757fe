-- Hardware IDs, field by field.
use Rattle.std.proofs.Common.{◌≡◌, ℕ, ◌≤◌, Bool, true, false, ◌||◌, List, [], ◌∷◌, ◌++◌, append_assoc, length, map, refl, sym, ap, ◌∙◌, nat_le, nat_lt, ◌+◌, ◌<◌, take, get_or, arith, position, None, Ok, Err}
use Rattle.std.proofs.lemmas.Bool.{and_parts, le-ltb, lt-leb, ltb-true}
use Rattle.std.proofs.lemmas.Bool.Decides.{nat_tests}
use Rattle.std.proofs.lemmas.List.{map-append, take_more, take_all}
use Rattle.std.proofs.lemmas.List.Concat.{flat_map-append}
use Rattle.std.specs.List.{join_with_byte, list_any, list_all, position_or_len}
use Rattle.guid_ids.specs.Identifiers.{ampersand, utf16_le, hardware_namespace, is_smbios_byte, smbios_read}
use Rattle.fw_base.specs.Lines.{is_no_line_byte, line_read}
use Rattle.fw_base.specs.declared.line.LineFault.{LineFault}

-- one more field at the end
pub join-push : (first : List ℕ) (others : List (List ℕ)) (other : List ℕ)
    → join_with_byte ampersand (first ∷ others ++ other ∷ []) ≡ join_with_byte ampersand (first ∷ others) ++ ampersand ∷ other
join-push first [] other = refl
join-push first (second ∷ others) other =
    let rest = join_with_byte ampersand (second ∷ others) in
    ap (λ (xs : List ℕ). first ++ (ampersand ∷ xs)) (join-push second others other) ∙ sym (append_assoc first (ampersand ∷ rest) (ampersand ∷ other))

-- the hash took in the namespace and the fields so far, then `&` and one more
pub taken-push : (first : List ℕ) (others : List (List ℕ)) (other : List ℕ)
    → hardware_namespace ++ utf16_le (join_with_byte ampersand (first ∷ others)) ++ utf16_le (ampersand ∷ []) ++ utf16_le other
    ≡ hardware_namespace ++ utf16_le (join_with_byte ampersand (first ∷ others ++ other ∷ []))
taken-push first others other =
    let fields = join_with_byte ampersand (first ∷ others) in
    let pieces : utf16_le (fields ++ ampersand ∷ other) ≡ utf16_le fields ++ (utf16_le (ampersand ∷ []) ++ utf16_le other) =
    flat_map-append (λ c. c ∷ 0 ∷ []) fields (ampersand ∷ other) in
    append_assoc (hardware_namespace ++ utf16_le fields) (utf16_le (ampersand ∷ [])) (utf16_le other)
    ∙ append_assoc hardware_namespace (utf16_le fields) (utf16_le (ampersand ∷ []) ++ utf16_le other)
    ∙ ap (λ (xs : List ℕ). hardware_namespace ++ xs) (sym (ap utf16_le (join-push first others other) ∙ pieces))

-- a test of each field, through the references to them
pub list_any-map : {X Y : Type 0} (test : Y → Bool) (f : X → Y) (xs : List X) → list_any test (map f xs) ≡ list_any (λ x. test (f x)) xs
list_any-map test f [] = refl
list_any-map test f (x ∷ xs) = ap (λ (rest : Bool). test (f x) || rest) (list_any-map test f xs)

-- ---- texts of printable ASCII

printable_in_line : (b : ℕ) → is_smbios_byte b ≡ true → is_no_line_byte b ≡ false
printable_in_line b h = grind (arith, nat_tests)

-- no byte of a text is bad for a line
all_in_line : (bytes : List ℕ) → list_all is_smbios_byte bytes ≡ true → position_or_len is_no_line_byte bytes ≡ length bytes
all_in_line [] h = refl
all_in_line (b ∷ bytes) h =
    let parts = and_parts (is_smbios_byte b) (list_all is_smbios_byte bytes) h in
    rw (printable_in_line b parts.0) (omega (arith, all_in_line bytes parts.1))

no_bad_byte : (bytes : List ℕ) → list_all is_smbios_byte bytes ≡ true → position is_no_line_byte bytes ≡ None
no_bad_byte bytes h =
    let past : nat_lt (length bytes) (length bytes) ≡ false = le-ltb (length bytes) (length bytes) (omega arith) in
    rw (all_in_line bytes h, past) refl

-- a line is refused only for its length, and then it is no text
pub smbios_read-none : (bytes : List ℕ) (fault : LineFault) → list_all is_smbios_byte bytes ≡ true → line_read bytes ≡ Err fault → smbios_read bytes ≡ None
smbios_read-none bytes fault h refused = go (nat_lt 255 (length bytes)) refl
  where
    go : (long : Bool) → nat_lt 255 (length bytes) ≡ long → smbios_read bytes ≡ None
    go true e =
        let past : nat_le (length bytes) 255 ≡ false = lt-leb (length bytes) 255 (ltb-true 255 (length bytes) e) in
        rw past refl
    go false e =
        let kept : line_read bytes ≡ Ok bytes = rw (e, no_bad_byte bytes h) refl in
        cc

-- ---- fields behind references

pub fields-more : {X : Type 0} (field : X → List ℕ) (others : List X) (i : ℕ) (d : X) → i < length others
    → map field (take (i + 1) others) ≡ map field (take i others) ++ field (get_or others i d) ∷ []
fields-more field others i d h = ap (map field) (take_more others i d h) ∙ map-append field (take i others) (get_or others i d ∷ [])

pub fields-all : {X : Type 0} (field : X → List ℕ) (others : List X) (i : ℕ) → length others ≤ i → map field (take i others) ≡ map field others
fields-all field others i h = ap (map field) (take_all i others h)
