-- When a requirement holds, and the first of a list that doesn't.
use Rattle.std.specs.Prelude.{◌≡◌, ◌<◌, ℕ, zero, suc, Bool, not, List, Option, Some, None, is_some, if◌then◌else◌, option_map, option_and_then, find, position, slice_get}
use Rattle.std.specs.List.{list_any}
use Rattle.std.specs.Str.{bytes_eq}
use Rattle.std.specs.Ordering.{is_eq, is_ne, is_lt, is_le, is_gt, is_ge}
use Rattle.version_formats.specs.VersionOrder.{version_cmp}
use Rattle.fw_patterns.specs.Deciding.{in_pattern}
use Rattle.fw_facts.specs.declared.machine.MachineFacts.{MachineFacts}
use Rattle.fw_facts.specs.declared.requirement.Test.{Test}
use Rattle.fw_facts.specs.declared.requirement.Test.TheVariants.{Eq, Ne, Lt, Le, Gt, Ge, Glob, Regex}
use Rattle.fw_facts.specs.declared.requirement.VendorTest.{VendorTest}
use Rattle.fw_facts.specs.declared.requirement.VendorTest.TheVariants.{Same, Glob as VendorGlob, Regex as VendorRegex}
use Rattle.fw_facts.specs.declared.requirement.Requirement.{Requirement}
use Rattle.fw_facts.specs.declared.requirement.Requirement.TheVariants.{Id, Firmware, Bootloader, VendorId, Device, Ancestor, Hardware, NotHardware, Client}
use Rattle.fw_facts.specs.declared.view.DeviceView.{DeviceView}
use Rattle.fw_facts.specs.Views.{guids_of, version_of}
use Rattle.requirements.specs.declared.unmet.UnmetCause.{UnmetCause}
use Rattle.requirements.specs.declared.unmet.UnmetCause.TheVariants.{IdMissing, VersionCompare, NoBootloaderVersion, VendorMismatch, NoSuchDevice, NoSuchAncestor, DeviceInUse, HardwareMissing, HardwareForbidden, ClientFeatureMissing}
use Rattle.requirements.specs.declared.unmet.Unmet.{Unmet}

-- ---- tests

-- A version passes a test: it stands on the left of the comparison, or in the pattern.
abbrev pub passes : Test → List ℕ → Bool
passes (Eq other) version = is_eq (version_cmp version other)
passes (Ne other) version = is_ne (version_cmp version other)
passes (Lt other) version = is_lt (version_cmp version other)
passes (Le other) version = is_le (version_cmp version other)
passes (Gt other) version = is_gt (version_cmp version other)
passes (Ge other) version = is_ge (version_cmp version other)
passes (Glob pattern) version = in_pattern pattern version
passes (Regex pattern) version = in_pattern pattern version

-- A vendor ID passes a test: it has the same bytes, or is in the pattern.
abbrev pub vendor_passes : VendorTest → List ℕ → Bool
vendor_passes (Same other) vendor = bytes_eq vendor other
vendor_passes (VendorGlob pattern) vendor = in_pattern pattern vendor
vendor_passes (VendorRegex pattern) vendor = in_pattern pattern vendor

-- ---- what is looked for

-- The version of the first ID of that name.
abbrev pub version_with_id : List ℕ → MachineFacts → Option (List ℕ)
version_with_id name machine = option_map (λ id. id.1) (find (λ id. bytes_eq name id.0) machine.ids)

-- The device shows the GUID.
abbrev pub has_guid : List ℕ → DeviceView → Bool
has_guid guid view = list_any (λ shown. bytes_eq guid shown) (guids_of view)

-- The device's parent: the first whose port its sheet names, whether or not it is present.
abbrev pub parent : List DeviceView → DeviceView → Option DeviceView
parent views view = option_and_then (λ port. find (λ other. bytes_eq port other.sheet.port) views) view.sheet.parent

-- The ancestor at a depth, from the device itself at 0.
abbrev pub ancestor : List DeviceView → ℕ → DeviceView → Option DeviceView
ancestor views zero view = Some view
ancestor views (suc depth) view = option_and_then (ancestor views depth) (parent views view)

-- One of the machine's hardware IDs is in the list.
abbrev pub has_hardware : MachineFacts → List (List ℕ) → Bool
has_hardware machine any = list_any (λ id. list_any (λ own. bytes_eq id own) machine.hardware) any

-- ---- why a requirement doesn't hold: none where it holds

-- The cause, where the test fails.
abbrev pub unless : Bool → UnmetCause → Option UnmetCause
unless holds cause = if holds then None else Some cause

-- A version that has to be there, and has to pass.
abbrev pub of_version : Test → UnmetCause → Option (List ℕ) → Option UnmetCause
of_version test otherwise None = Some otherwise
of_version test otherwise (Some version) = unless (passes test version) VersionCompare

-- A version that has to pass, where there is a test.
abbrev pub of_test : Option Test → Option (List ℕ) → Option UnmetCause
of_test None version = None
of_test (Some test) version = of_version test VersionCompare version

-- A device that mustn't have a claim, and whose version has to pass.
abbrev pub of_device : Option Test → DeviceView → Option UnmetCause
of_device test view = in_use view.claim
  where
    in_use : Option ℕ → Option UnmetCause
    in_use (Some entry) = Some (DeviceInUse entry)
    in_use None = of_test test (version_of view)

-- A device that has to be there.
abbrev pub of_found : Option Test → UnmetCause → Option DeviceView → Option UnmetCause
of_found test otherwise None = Some otherwise
of_found test otherwise (Some view) = of_device test view

-- That ancestor, where it shows the GUID.
abbrev pub with_guid : List ℕ → Option DeviceView → Option DeviceView
with_guid guid found = option_and_then (λ view. if has_guid guid view then Some view else None) found

-- Why the requirement doesn't hold of the device, on this machine, for a client with these features.
abbrev pub cause : MachineFacts → List (List ℕ) → List DeviceView → DeviceView → Requirement → Option UnmetCause
cause machine features views view (Id name test) = of_version test IdMissing (version_with_id name machine)
cause machine features views view (Firmware test) = of_version test VersionCompare (version_of view)
cause machine features views view (Bootloader test) = of_version test NoBootloaderVersion view.sheet.bootloader
cause machine features views view (VendorId test) = unless (list_any (vendor_passes test) view.sheet.vendor_ids) VendorMismatch
cause machine features views view (Device guid test) = of_found test NoSuchDevice (find (has_guid guid) views)
cause machine features views view (Ancestor depth guid test) =
    of_found test NoSuchAncestor (with_guid guid (ancestor views depth view))
cause machine features views view (Hardware any) = unless (has_hardware machine any) HardwareMissing
cause machine features views view (NotHardware any) = unless (not (has_hardware machine any)) HardwareForbidden
cause machine features views view (Client feature) =
    unless (list_any (λ own. bytes_eq feature own) features) ClientFeatureMissing

-- ---- the first that doesn't hold

-- Why the requirement at the place doesn't hold: none where it holds, or where there is no such place.
abbrev pub cause_at : (Requirement → Option UnmetCause) → List Requirement → ℕ → Option UnmetCause
cause_at why list at = option_and_then why (slice_get list at)

-- The requirement at the place, and why it doesn't hold.
abbrev pub unmet_at : (Requirement → Option UnmetCause) → List Requirement → ℕ → Option Unmet
unmet_at why list at = option_map (λ cause. record { index = at; cause = cause }) (cause_at why list at)

-- The first requirement of the list that doesn't hold of a device.
abbrev pub first_unmet_of : MachineFacts → List (List ℕ) → List DeviceView → DeviceView → List Requirement → Option Unmet
first_unmet_of machine features views view list =
    option_and_then
    (unmet_at (cause machine features views view) list)
    (position (λ requirement. is_some (cause machine features views view requirement)) list)

-- The same of the device at a place of the list of devices.
unfoldable pub first_unmet : MachineFacts → List (List ℕ) → List DeviceView → ℕ → List Requirement → Option Unmet
first_unmet machine features views device list =
    option_and_then (λ view. first_unmet_of machine features views view list) (slice_get views device)

-- ---- the same, said by places

-- All requirements of the list hold.
abbrev pub AllHold : (Requirement → Option UnmetCause) → List Requirement → Type 0
AllHold why list = (at : ℕ) → cause_at why list at ≡ None

-- The requirement that is named doesn't hold, for the cause that is named, and each one before it holds.
pub record IsFirstUnmet (why : Requirement → Option UnmetCause) (list : List Requirement) (unmet : Unmet) : Type 0 where
  pub named : cause_at why list unmet.index ≡ Some unmet.cause
  pub before : (at : ℕ) → at < unmet.index → cause_at why list at ≡ None
