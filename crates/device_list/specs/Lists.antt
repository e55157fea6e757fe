-- A list of devices: which is the first of a name, and what may be added.
use Rattle.std.specs.Prelude.{ℕ, ◌==◌, Bool, List, length, map, position, Option, Some, None, is_some, if◌then◌else◌}
use Rattle.std.specs.List.{list_any}
use Rattle.std.specs.Str.{bytes_eq}
use Rattle.fw_facts.specs.declared.view.DeviceView.{DeviceView}
use Rattle.fw_facts.specs.Views.{guids_of}
use Rattle.device_list.specs.declared.selector.Selector.{Selector}
use Rattle.device_list.specs.declared.selector.Selector.TheVariants.{Id, Guid, Port}
use Rattle.device_list.specs.declared.fault.ListFault.{ListFault}
use Rattle.device_list.specs.declared.fault.ListFault.TheVariants.{Duplicate, Full}

-- The device shows the GUID.
abbrev pub shows : List ℕ → DeviceView → Bool
shows guid view = list_any (λ shown. bytes_eq guid shown) (guids_of view)

-- The selector names the device. An ID or a port does so whether or not the device is present.
abbrev pub names : Selector → DeviceView → Bool
names (Id device) view = bytes_eq device view.sheet.device
names (Guid guid) view = shows guid view
names (Port port) view = bytes_eq port view.sheet.port

-- The place of the first device that the selector names.
abbrev pub place : Selector → List DeviceView → Option ℕ
place selector views = position (names selector) views

-- Why a device of that ID isn't added, memory aside: the ID is there, or else the list is full.
abbrev pub refused : List DeviceView → List ℕ → Option ListFault
refused views device =
    if is_some (place (Id device) views) then Some (Duplicate device)
    else (if length views == 256 then Some Full else None)

-- The IDs of the devices, in order.
abbrev pub ids_in : List DeviceView → List (List ℕ)
ids_in views = map (λ view. view.sheet.device) views

-- The view with this claim, where it is of that device.
abbrev pub claimed_on : List ℕ → Option ℕ → DeviceView → DeviceView
claimed_on device claim view = record view { claim = if bytes_eq device view.sheet.device then claim else view.claim }
