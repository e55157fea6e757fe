-- Lists of flags, of which those behind `~` are taken away.
use Rattle.std.specs.Prelude.{ℕ, ◌==◌, nat_le, Bool, true, false, ◌&&◌, if◌then◌else◌, List, [], ◌∷◌, length, drop, slice_index, Option, find}
use Rattle.std.specs.Option.{option_map}
use Rattle.std.specs.Str.{bytes_eq}
use Rattle.fw_facts.specs.declared.flags.DeviceFlag.{DeviceFlag}
use Rattle.fw_facts.specs.declared.flags.DeviceFlag.TheVariants.{Internal, Updatable, RequireAc, Locked, NeedsBootloader, NeedsReboot, WaitForReplug, InstallParentFirst, Emulated}
use Rattle.fw_facts.specs.Flags.{flag_word, set_flag}
use Rattle.quirk_files.specs.declared.changes.FlagChange.{FlagChange}
use Rattle.quirk_files.specs.declared.changes.FlagChange.TheVariants.{Add, Remove}

-- The flags that a quirk may change: all but `is-bootloader`, which no sheet states.
abbrev pub quirk_flags : List DeviceFlag
quirk_flags =
    Internal ∷ Updatable ∷ RequireAc ∷ Locked ∷ NeedsBootloader ∷ NeedsReboot ∷ WaitForReplug ∷ InstallParentFirst
    ∷ Emulated ∷ []

-- The flag of a word.
abbrev pub flag_of : List ℕ → Option DeviceFlag
flag_of word = find (λ flag. bytes_eq (flag_word flag) word) quirk_flags

-- What an element of a list of flags does: its flag is added, or, behind `~`, taken away.
abbrev pub begins_with_tilde : List ℕ → Bool
begins_with_tilde element = nat_le 1 (length element) && (slice_index element 0 == 126)

abbrev pub change_of : List ℕ → Option FlagChange
change_of element =
    if begins_with_tilde element then option_map Remove (flag_of (drop 1 element)) else option_map Add (flag_of element)

-- The flags after a change.
abbrev pub flags_with : FlagChange → List Bool → List Bool
flags_with (Add flag) flags = set_flag flag true flags
flags_with (Remove flag) flags = set_flag flag false flags

-- The flags after the changes, in order.
unfoldable pub changed : List Bool → List FlagChange → List Bool
changed flags [] = flags
changed flags (change ∷ more) = changed (flags_with change flags) more
