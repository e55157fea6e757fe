-- A sheet after quirks.
use Rattle.std.specs.Prelude.{ℕ, Bool, if◌then◌else◌, List, [], ◌∷◌, ◌++◌, filter, Option, None, unwrap_or}
use Rattle.std.specs.List.{list_any, filter_map, flat_map, last_or}
use Rattle.std.specs.Option.{option_or}
use Rattle.std.specs.Str.{bytes_eq}
use Rattle.fw_facts.specs.declared.sheet.Sheet.{Sheet}
use Rattle.quirk_files.specs.declared.key.Key.{Key}
use Rattle.quirk_files.specs.declared.key.Key.TheVariants.{Plugin, Name, Vendor, VersionFormat, Protocol, FirmwareSizeMin, FirmwareSizeMax, InstallDuration, Flags, Guid, VendorId, CounterpartGuid}
use Rattle.quirk_files.specs.declared.quirk.Quirk.{Quirk}
use Rattle.quirk_files.specs.Flags.{change_of, changed}
use Rattle.quirk_files.specs.Keys.{is_key}
use Rattle.quirk_files.specs.Texts.{elements_of}
use Rattle.quirk_files.specs.Values.{name_of, line_of, format_of, size_of, duration_of, guid_of_element}

-- The quirk's group is one of these GUIDs.
abbrev pub is_for : List (List ℕ) → Quirk → Bool
is_for guids quirk = list_any (λ guid. bytes_eq quirk.group guid) guids

-- The GUIDs of a sheet, on either side.
abbrev pub guids_of_sheet : Sheet → List (List ℕ)
guids_of_sheet sheet = sheet.runtime_guids ++ sheet.loader_guids

-- What a quirk of the key is read as.
abbrev pub value_in : {V : Type 0} → (List ℕ → Option V) → Key → Quirk → Option V
value_in read key quirk = if is_key quirk.key key then read quirk.value else None

-- The last value of the key that can be read.
abbrev pub last_read : {V : Type 0} → (List ℕ → Option V) → Key → List Quirk → Option V
last_read read key quirks = last_or None (filter_map (value_in read key) quirks)

-- A single value: the last one that can be read, or else the one before.
abbrev pub value_after : {V : Type 0} → (List ℕ → Option V) → Key → List Quirk → V → V
value_after read key quirks before = unwrap_or (last_read read key quirks) before

-- The elements of the comma list that a quirk of the key has.
abbrev pub elements_in : Key → Quirk → List (List ℕ)
elements_in key quirk = if is_key quirk.key key then elements_of quirk.value else []

-- What the comma lists of the key name, in reading order, where it can be read.
abbrev pub listed : {V : Type 0} → (List ℕ → Option V) → Key → List Quirk → List V
listed read key quirks = filter_map read (flat_map (elements_in key) quirks)

-- The list, and behind it each of the others that isn't in it yet, in order.
unfoldable pub added : List (List ℕ) → List (List ℕ) → List (List ℕ)
added list [] = list
added list (next ∷ more) = added (if list_any (bytes_eq next) list then list else list ++ next ∷ []) more

-- The sheet with the single values of the quirks.
abbrev pub with_singles : Sheet → List Quirk → Sheet
with_singles sheet quirks =
    record sheet {
      plugin = value_after name_of Plugin quirks sheet.plugin;
      name = value_after line_of Name quirks sheet.name;
      vendor = value_after line_of Vendor quirks sheet.vendor;
      format = value_after format_of VersionFormat quirks sheet.format;
      protocol = option_or (last_read name_of Protocol quirks) sheet.protocol;
      size_min = value_after size_of FirmwareSizeMin quirks sheet.size_min;
      size_max = value_after size_of FirmwareSizeMax quirks sheet.size_max;
      duration = value_after duration_of InstallDuration quirks sheet.duration;
    }

-- The sheet with the lists of the quirks too.
abbrev pub sheet_with : Sheet → List Quirk → Sheet
sheet_with sheet quirks =
    record (with_singles sheet quirks) {
      flags = changed sheet.flags (listed change_of Flags quirks);
      runtime_guids = added sheet.runtime_guids (listed guid_of_element Guid quirks);
      vendor_ids = added sheet.vendor_ids (listed name_of VendorId quirks);
      counterparts = added sheet.counterparts (listed guid_of_element CounterpartGuid quirks);
    }

-- The sheet after the quirks of a book: those whose group is a GUID that the sheet had before.
abbrev pub sheet_after : Sheet → List Quirk → Sheet
sheet_after sheet quirks = sheet_with sheet (filter (is_for (guids_of_sheet sheet)) quirks)
