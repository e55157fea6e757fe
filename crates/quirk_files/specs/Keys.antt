-- The keys of quirk files and their words.
use Rattle.std.specs.Prelude.{ℕ, ◌==◌, Bool, List, [], ◌∷◌, Option, codes, find}
use Rattle.std.specs.Str.{bytes_eq}
use Rattle.quirk_files.specs.declared.key.Key.{Key}
use Rattle.quirk_files.specs.declared.key.Key.TheVariants.{Plugin, Name, Vendor, VersionFormat, Protocol, FirmwareSizeMin, FirmwareSizeMax, InstallDuration, Flags, Guid, VendorId, CounterpartGuid}

-- The word of a key.
abbrev pub key_word : Key → List ℕ
key_word Plugin = codes "Plugin"
key_word Name = codes "Name"
key_word Vendor = codes "Vendor"
key_word VersionFormat = codes "VersionFormat"
key_word Protocol = codes "Protocol"
key_word FirmwareSizeMin = codes "FirmwareSizeMin"
key_word FirmwareSizeMax = codes "FirmwareSizeMax"
key_word InstallDuration = codes "InstallDuration"
key_word Flags = codes "Flags"
key_word Guid = codes "Guid"
key_word VendorId = codes "VendorId"
key_word CounterpartGuid = codes "CounterpartGuid"

-- The place of a key in their order.
abbrev pub key_place : Key → ℕ
key_place Plugin = 0
key_place Name = 1
key_place Vendor = 2
key_place VersionFormat = 3
key_place Protocol = 4
key_place FirmwareSizeMin = 5
key_place FirmwareSizeMax = 6
key_place InstallDuration = 7
key_place Flags = 8
key_place Guid = 9
key_place VendorId = 10
key_place CounterpartGuid = 11

-- The two keys are one.
abbrev pub is_key : Key → Key → Bool
is_key one other = key_place one == key_place other

-- The twelve keys, in their order.
abbrev pub all_keys : List Key
all_keys =
    Plugin ∷ Name ∷ Vendor ∷ VersionFormat ∷ Protocol ∷ FirmwareSizeMin ∷ FirmwareSizeMax ∷ InstallDuration
    ∷ Flags ∷ Guid ∷ VendorId ∷ CounterpartGuid ∷ []

-- The key of a word, if it is one's.
abbrev pub key_read : List ℕ → Option Key
key_read word = find (λ key. bytes_eq (key_word key) word) all_keys
