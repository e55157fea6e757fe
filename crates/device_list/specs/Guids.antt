-- Which places of a list of devices a GUID leads to.
use Rattle.std.specs.Prelude.{◌≡◌, ℕ, ◌+◌, ◌-◌, ◌<◌, ◌≤◌, ◌⊎◌, ◌==◌, Bool, true, false, ◌||◌, List, [], ◌∷◌, ◌++◌, length, map, slice_get, Option, if◌then◌else◌, Vec, vec_len, vec_capacity}
use Rattle.std.specs.List.{list_any}
use Rattle.std.specs.Option.{option_map_or, MatchOption}
use Rattle.std.specs.Str.{bytes_eq}
use Rattle.std.specs.declared.alloc.Global.{Global}
use Rattle.indexmap.specs.IndexMap.{IndexMap, get}
use Rattle.fw_facts.specs.declared.sheet.Sheet.{Sheet}
use Rattle.fw_facts.specs.declared.view.DeviceView.{DeviceView}
use Rattle.device_list.specs.Lists.{shows}

-- The sheets of the devices, in order.
abbrev pub sheets : List DeviceView → List Sheet
sheets views = map (λ view. view.sheet) views

-- The board has the GUID in one of its modes.
abbrev pub has : List ℕ → Sheet → Bool
has guid sheet = list_any (bytes_eq guid) sheet.runtime_guids || list_any (bytes_eq guid) sheet.loader_guids

-- The places of the sheets that pass a test, counted from a first one.
abbrev pub places_from : (Sheet → Bool) → ℕ → List Sheet → List ℕ
places_from test first [] = []
places_from test first (sheet ∷ sheets) = (if test sheet then first ∷ [] else []) ++ places_from test (first + 1) sheets

-- The places of the sheets that have the GUID.
abbrev pub places_of : List ℕ → List Sheet → List ℕ
places_of guid sheets = places_from (has guid) 0 sheets

-- The device at a place shows the GUID.
abbrev pub shows_at : List ℕ → List DeviceView → ℕ → Bool
shows_at guid views at = option_map_or (shows guid) (slice_get views at) false

-- The last place of a list is this one.
abbrev pub ends_in : ℕ → List ℕ → Bool
ends_in at places = option_map_or (λ last. last == at) (slice_get places (length places - 1)) false

-- A place behind the others, unless it is the last one already.
abbrev pub with_last : Bool → ℕ → List ℕ → List ℕ
with_last wanted at places = if wanted then (if ends_in at places then places else places ++ at ∷ []) else places

-- The places in a list in memory.
abbrev pub items_of : Option (Vec ℕ Global) → List ℕ
items_of places = option_map_or (λ all. all.items) places []

-- The list has room for a place, or ends in it already.
abbrev pub IsReadyFor : ℕ → Vec ℕ Global → Type 0
IsReadyFor at places = (ends_in at places.items ≡ true) ⊎ (vec_len places < vec_capacity places)

module _ {S : Type 0} where
  -- The places that are noted under a GUID.
  abbrev pub listed : IndexMap (List ℕ) (Vec ℕ Global) S → List ℕ → List ℕ
  listed index guid = items_of (get bytes_eq index guid)

  -- There is room for a place under the GUID.
  abbrev pub HasRoom : IndexMap (List ℕ) (Vec ℕ Global) S → List ℕ → Type 0
  HasRoom index guid = MatchOption (get bytes_eq index guid) ⊥ (λ places. vec_len places < vec_capacity places)

  -- The place may be noted under the GUID without memory.
  abbrev pub IsReady : ℕ → IndexMap (List ℕ) (Vec ℕ Global) S → List ℕ → Type 0
  IsReady at index guid = MatchOption (get bytes_eq index guid) ⊥ (IsReadyFor at)

-- The set of IDs and the map of GUIDs say of the views what the list says.
pub record IsIndexed {S : Type 0} (views : List DeviceView) (ids : List (List ℕ)) (guids : IndexMap (List ℕ) (Vec ℕ Global) S) : Type 0 where
  -- the IDs are those of the devices, in order
  pub ids_of : ids ≡ map (λ sheet. sheet.device) (sheets views)
  -- the places under a GUID are those of the devices whose boards have it
  pub places : (guid : List ℕ) → listed guids guid ≡ places_of guid (sheets views)
  -- there are at most 256 devices
  pub few : length views ≤ 256
