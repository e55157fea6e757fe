-- Identifiers: GUIDs (RFC 9562), device IDs (SHA-1 of FIPS 180-4) and hardware IDs.
-- Every hash is that of a whole list of bytes.
use Rattle.std.specs.Prelude.{ℕ, ◌==◌, nat_le, Bool, ◌&&◌, if◌then◌else◌, List, [], ◌∷◌, ◌++◌, length, take, slice_index, slice_range, Option, Some, None, unwrap_or}
use Rattle.std.specs.List.{flat_map, join_with_byte, list_all, list_any}
use Rattle.std.specs.Result.{result_ok}
use Rattle.hex.specs.Hex.{encode_lower, decode_sized}
use Rattle.sha1.specs.Sha1.{sha1}
use Rattle.uuid.specs.Uuid.{namespace_dns}
use Rattle.uuid.specs.Parts.{with_version, with_variant}
use Rattle.uuid.specs.declared.Version.TheVariants.{Sha1}
use Rattle.uuid.specs.declared.Variant.TheVariants.{RFC4122}

-- ---- the text of a GUID

-- the byte `-`
abbrev pub hyphen : ℕ
hyphen = 45

-- 32 digits in groups of 8, 4, 4, 4 and 12, with a hyphen between two groups
abbrev pub grouped : List ℕ → List ℕ
grouped digits =
    join_with_byte hyphen (slice_range digits 0 8 ∷ slice_range digits 8 12 ∷ slice_range digits 12 16 ∷ slice_range digits 16 20 ∷ slice_range digits 20 32 ∷ [])

-- the text of a GUID: its bytes as lower-case hex digits, in groups
unfoldable pub guid_text : List ℕ → List ℕ
guid_text guid = grouped (encode_lower guid)

-- whether 36 bytes have the hyphens of that form
abbrev pub has_hyphens : List ℕ → Bool
has_hyphens text =
    (slice_index text 8 == hyphen) && (slice_index text 13 == hyphen)
    && (slice_index text 18 == hyphen) && (slice_index text 23 == hyphen)

-- what stands between the hyphens
abbrev pub ungrouped : List ℕ → List ℕ
ungrouped text =
    slice_range text 0 8 ++ slice_range text 9 13 ++ slice_range text 14 18 ++ slice_range text 19 23 ++ slice_range text 24 36

-- the GUID that a text names: 36 bytes in the form 8-4-4-4-12, with hex digits of either case
unfoldable pub named_guid : List ℕ → Option (List ℕ)
named_guid text =
    if (length text == 36) && has_hyphens text then result_ok (decode_sized (ungrouped text) 16) else None

-- ---- identifiers from names

-- the version 5 UUID of a name in a namespace (RFC 9562, section 5.5): the first 16 bytes of the
-- SHA-1 of namespace and name, with the version and the variant put in
abbrev pub name_based : List ℕ → List ℕ → List ℕ
name_based namespace name = with_version (with_variant (take 16 (sha1 (namespace ++ name))) RFC4122) Sha1

-- the GUID of an instance ID: the one that it names, or else its UUID in the DNS namespace
unfoldable pub guid : List ℕ → List ℕ
guid text = unwrap_or (named_guid text) (name_based namespace_dns text)

-- the byte `:`
abbrev pub colon : ℕ
colon = 58

-- the ID of a device: the SHA-1 of its physical ID, with `:` and its logical ID where it has one
unfoldable pub device_id : List ℕ → Option (List ℕ) → List ℕ
device_id physical None = sha1 physical
device_id physical (Some logical) = sha1 (physical ++ colon ∷ logical)

-- the device ID that a text names: 40 hex digits of either case
unfoldable pub named_device : List ℕ → Option (List ℕ)
named_device text = result_ok (decode_sized text 20)

-- ---- hardware IDs

-- a byte of printable ASCII
abbrev pub is_smbios_byte : ℕ → Bool
is_smbios_byte b = nat_le 0x20 b && nat_le b 0x7E

-- the bytes, where they are up to 255 of printable ASCII
abbrev pub smbios_read : List ℕ → Option (List ℕ)
smbios_read bytes = if nat_le (length bytes) 255 && list_all is_smbios_byte bytes then Some bytes else None

-- 70ffd812-4c7f-4c7d-0000-000000000000
abbrev pub hardware_namespace : List ℕ
hardware_namespace =
    0x70 ∷ 0xff ∷ 0xd8 ∷ 0x12 ∷ 0x4c ∷ 0x7f ∷ 0x4c ∷ 0x7d ∷ 0 ∷ 0 ∷ 0 ∷ 0 ∷ 0 ∷ 0 ∷ 0 ∷ 0 ∷ []

-- the byte `&`
abbrev pub ampersand : ℕ
ampersand = 38

-- ASCII text in UTF-16, the low byte of each unit first
abbrev pub utf16_le : List ℕ → List ℕ
utf16_le text = flat_map (λ c. c ∷ 0 ∷ []) text

-- the ID of some fields, joined by `&`: none where a field is empty
abbrev pub hardware_id : List (List ℕ) → List (List ℕ)
hardware_id fields =
    if list_any (λ field. length field == 0) fields then []
    else name_based hardware_namespace (utf16_le (join_with_byte ampersand fields)) ∷ []

-- the hardware IDs numbered 4, 5, 7, 9, 11 and 14, in this order
unfoldable pub hardware_ids : List ℕ → List ℕ → List ℕ → List ℕ → List (List ℕ)
hardware_ids manufacturer family product sku =
    hardware_id (manufacturer ∷ family ∷ product ∷ sku ∷ [])
    ++ hardware_id (manufacturer ∷ family ∷ product ∷ [])
    ++ hardware_id (manufacturer ∷ sku ∷ [])
    ++ hardware_id (manufacturer ∷ product ∷ [])
    ++ hardware_id (manufacturer ∷ family ∷ [])
    ++ hardware_id (manufacturer ∷ [])
