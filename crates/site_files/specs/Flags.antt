-- The flags of a board.
use Rattle.std.specs.Prelude.{Bool, true, List, [], ◌∷◌, find, Result, Ok}
use Rattle.std.specs.Str.{bytes_eq}
use Rattle.fw_facts.specs.declared.flags.DeviceFlag.{DeviceFlag}
use Rattle.fw_facts.specs.declared.flags.DeviceFlag.TheVariants.{Internal, Updatable, RequireAc, Locked, NeedsBootloader, NeedsReboot, WaitForReplug, InstallParentFirst, Emulated}
use Rattle.fw_facts.specs.Flags.{flag_word, no_flags, set_flag}
use Rattle.serde_json.specs.Data.{Data, Items, no_items, item}
use Rattle.release_catalogue.specs.declared.reason.Reason.TheVariants.{WrongKind}
use Rattle.release_catalogue.specs.declared.spot.Spot.{Spot}
use Rattle.release_catalogue.specs.declared.spot.Fault.{Fault}
use Rattle.release_catalogue.specs.Reading.{◌>>=◌, or_fault}
use Rattle.release_catalogue.specs.Kinds.{items_at, text_at}

-- The flags that a sheet may state: all but `is-bootloader`, which a board shows by itself.
abbrev pub sheet_flags : List DeviceFlag
sheet_flags =
    Internal ∷ Updatable ∷ RequireAc ∷ Locked ∷ NeedsBootloader ∷ NeedsReboot ∷ WaitForReplug ∷ InstallParentFirst ∷ Emulated ∷ []

-- A flag of a sheet, by its word.
abbrev pub flag_at : Spot → Data → Result DeviceFlag Fault
flag_at spot d = do
  text ← text_at spot d
  or_fault spot WrongKind (find (λ flag. bytes_eq (flag_word flag) text) sheet_flags)

-- The flags of a list, beside those before.
abbrev pub each_flag : Spot → List Bool → Items → Result (List Bool) Fault
each_flag spot flags no_items = Ok flags
each_flag spot flags (item d ds) = do
  flag ← flag_at spot d
  each_flag spot (set_flag flag true flags) ds

-- A set of flags.
abbrev pub flags_at : Spot → Data → Result (List Bool) Fault
flags_at spot d = do
  ds ← items_at spot d
  each_flag spot no_flags ds
