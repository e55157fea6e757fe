-- What a device shows.
use Rattle.std.specs.Prelude.{Bool, true, false, List, [], ℕ, Option, Some, None}
use Rattle.version_formats.specs.Formats.{render}
use Rattle.fw_facts.specs.declared.flags.DeviceFlag.TheVariants.{IsBootloader}
use Rattle.fw_facts.specs.declared.sheet.Sheet.{Sheet}
use Rattle.fw_facts.specs.declared.seen.Seen.{Seen}
use Rattle.fw_facts.specs.declared.seen.Seen.TheVariants.{Home, Gone, Stranger}
use Rattle.fw_facts.specs.declared.seen.Mode.TheVariants.{Runtime, Bootloader}
use Rattle.fw_facts.specs.declared.view.DeviceView.{DeviceView}
use Rattle.fw_facts.specs.Flags.{set_flag}

-- The board is there.
abbrev pub is_home : Seen → Bool
is_home (Home raw mode) = true
is_home Gone = false
is_home Stranger = false

-- The board is there in bootloader mode.
abbrev pub in_loader : Seen → Bool
in_loader (Home raw Runtime) = false
in_loader (Home raw Bootloader) = true
in_loader Gone = false
in_loader Stranger = false

-- The GUIDs of the side that a board shows: those of its firmware, or those of its boot loader. A
-- board that isn't there shows none.
abbrev pub guids_shown : Sheet → Seen → List (List ℕ)
guids_shown sheet (Home raw Runtime) = sheet.runtime_guids
guids_shown sheet (Home raw Bootloader) = sheet.loader_guids
guids_shown sheet Gone = []
guids_shown sheet Stranger = []

-- The version that a board shows: the text of its raw number in its format. A board that isn't there
-- shows none.
abbrev pub version_shown : Sheet → Seen → Option (List ℕ)
version_shown sheet (Home raw mode) = Some (render sheet.format raw)
version_shown sheet Gone = None
version_shown sheet Stranger = None

-- The flags that a board shows: those of its sheet, with `is-bootloader` exactly in that mode.
abbrev pub flags_shown : Sheet → Seen → List Bool
flags_shown sheet seen = set_flag IsBootloader (in_loader seen) sheet.flags

-- The GUIDs, the version and the flags that a device shows.
abbrev pub guids_of : DeviceView → List (List ℕ)
guids_of view = guids_shown view.sheet view.seen

abbrev pub version_of : DeviceView → Option (List ℕ)
version_of view = version_shown view.sheet view.seen

abbrev pub flags_of : DeviceView → List Bool
flags_of view = flags_shown view.sheet view.seen
