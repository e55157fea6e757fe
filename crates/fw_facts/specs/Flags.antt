-- Sets of flags: for each of the ten flags, in their order, whether it is in the set.
use Rattle.std.specs.Prelude.{ℕ, Bool, false, not, ◌==◌, ◌||◌, List, [], ◌∷◌, set, get_or, codes}
use Rattle.std.specs.List.{list_all}
use Rattle.fw_facts.specs.declared.flags.DeviceFlag.{DeviceFlag}
use Rattle.fw_facts.specs.declared.flags.DeviceFlag.TheVariants.{Internal, Updatable, RequireAc, Locked, NeedsBootloader, IsBootloader, NeedsReboot, WaitForReplug, InstallParentFirst, Emulated}

-- The place of a flag in the order of the flags.
abbrev pub flag_place : DeviceFlag → ℕ
flag_place Internal = 0
flag_place Updatable = 1
flag_place RequireAc = 2
flag_place Locked = 3
flag_place NeedsBootloader = 4
flag_place IsBootloader = 5
flag_place NeedsReboot = 6
flag_place WaitForReplug = 7
flag_place InstallParentFirst = 8
flag_place Emulated = 9

-- The ten flags, in their order.
abbrev pub all_flags : List DeviceFlag
all_flags =
    Internal ∷ Updatable ∷ RequireAc ∷ Locked ∷ NeedsBootloader ∷ IsBootloader ∷ NeedsReboot ∷ WaitForReplug
    ∷ InstallParentFirst ∷ Emulated ∷ []

-- The word of a flag.
abbrev pub flag_word : DeviceFlag → List ℕ
flag_word Internal = codes "internal"
flag_word Updatable = codes "updatable"
flag_word RequireAc = codes "require-ac"
flag_word Locked = codes "locked"
flag_word NeedsBootloader = codes "needs-bootloader"
flag_word IsBootloader = codes "is-bootloader"
flag_word NeedsReboot = codes "needs-reboot"
flag_word WaitForReplug = codes "wait-for-replug"
flag_word InstallParentFirst = codes "install-parent-first"
flag_word Emulated = codes "emulated"

-- The two flags are one.
abbrev pub is_flag : DeviceFlag → DeviceFlag → Bool
is_flag one other = flag_place one == flag_place other

-- The flag is in the set.
abbrev pub has_flag : DeviceFlag → List Bool → Bool
has_flag flag flags = get_or flags (flag_place flag) false

-- The set with the flag, or without it.
abbrev pub set_flag : DeviceFlag → Bool → List Bool → List Bool
set_flag flag there flags = set flags (flag_place flag) there

-- The empty set.
abbrev pub no_flags : List Bool
no_flags = false ∷ false ∷ false ∷ false ∷ false ∷ false ∷ false ∷ false ∷ false ∷ false ∷ []

-- All of these flags are in the set.
abbrev pub has_all : List Bool → List Bool → Bool
has_all these flags = list_all (λ flag. not (has_flag flag these) || has_flag flag flags) all_flags
