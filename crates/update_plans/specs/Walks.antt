-- The order in which devices are visited.
use Rattle.std.specs.Prelude.{ℕ, zero, suc, ◌+◌, ◌==◌, ◌&&◌, Bool, true, false, not, List, [], ◌∷◌, ◌++◌, length, map, flat_map, Option, Some, None, is_some, option_and_then, if◌then◌else◌}
use Rattle.fw_facts.specs.declared.flags.DeviceFlag.{DeviceFlag}
use Rattle.fw_facts.specs.declared.view.DeviceView.{DeviceView}
use Rattle.fw_facts.specs.Flags.{has_flag}
use Rattle.device_list.specs.declared.selector.Selector.{Selector}
use Rattle.device_list.specs.Lists.{place}
use Rattle.update_plans.specs.declared.walk.Kin.{Kin}
use Rattle.update_plans.specs.declared.walk.Turn.{Turn}
use Rattle.update_plans.specs.declared.walk.Turn.TheVariants.{AfterParent, BeforeParent}

-- The place of a device's parent: the first device that stands in the port which the sheet names.
abbrev pub parent_of : List DeviceView → DeviceView → Option ℕ
parent_of views view = option_and_then (λ port. place (Selector.Port port) views) view.sheet.parent

-- A device comes after its parent where it wants its parent installed first, and else before it.
abbrev pub turn_of : DeviceView → Turn
turn_of view = if has_flag DeviceFlag.InstallParentFirst view.sheet.flags then AfterParent else BeforeParent

abbrev pub kin_of : List DeviceView → DeviceView → Kin
kin_of views view = record { parent = parent_of views view; turn = turn_of view }

abbrev pub related : List DeviceView → List Kin
related views = map (kin_of views) views

-- The device has no parent among the devices.
abbrev pub is_root : Kin → Bool
is_root device = not (is_some device.parent)

-- The device is a child of the one at a place, of that turn.
abbrev pub is_place : Option ℕ → ℕ → Bool
is_place None at = false
is_place (Some place) at = place == at

abbrev pub is_turn : Turn → Turn → Bool
is_turn BeforeParent BeforeParent = true
is_turn BeforeParent AfterParent = false
is_turn AfterParent BeforeParent = false
is_turn AfterParent AfterParent = true

abbrev pub is_child : Turn → ℕ → Kin → Bool
is_child turn at device = is_place device.parent at && is_turn device.turn turn

-- The places of the devices that pass a test, counted from a first one.
abbrev pub places_from : (Kin → Bool) → ℕ → List Kin → List ℕ
places_from test first [] = []
places_from test first (device ∷ devices) = (if test device then first ∷ [] else []) ++ places_from test (first + 1) devices

-- The visit of the device at a place: the visits of its children that come before it, then itself, then
-- the visits of those that come after it. It goes down so many generations.
unfoldable pub visit : List Kin → ℕ → ℕ → List ℕ
visit devices zero at = []
visit devices (suc generations) at =
    flat_map (visit devices generations) (places_from (is_child BeforeParent at) 0 devices)
    ++ at ∷ flat_map (visit devices generations) (places_from (is_child AfterParent at) 0 devices)

-- The visits of the devices without a parent. No chain of parents has more generations than there are
-- devices.
abbrev pub visit_roots : List Kin → List ℕ
visit_roots devices = flat_map (visit devices (length devices)) (places_from is_root 0 devices)

-- The walk over all devices.
abbrev pub walk : List DeviceView → List ℕ
walk views = visit_roots (related views)
