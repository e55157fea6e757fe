-- Which boards are devices.
--
-- Each sheet is a board's, in the document's order. Of the boards with one device ID, one is the
-- device; a board whose plugin is missing or disabled is none. The devices stand in board order, and
-- a device's place in their list isn't its board's number.
use Rattle.std.specs.Prelude.{true, ◌≡◌, ◌≢◌, AllPairs, Contains, ℕ, Bool, false, ◌&&◌, ◌||◌, not, ◌==◌, nat_lt, ◌+◌, List, [], ◌∷◌, Option, Some, filter, find, position, slice_get, is_some, option_map}
use Rattle.std.specs.List.{list_any}
use Rattle.std.specs.Str.{bytes_eq}
use Rattle.fw_facts.specs.declared.sheet.Sheet.{Sheet}
use Rattle.update_log.specs.declared.facts.Facts.{Facts}

-- A board: its number, from 0, and its sheet.
pub record Board : Type 0 where
  pub number : ℕ
  pub sheet : Sheet

-- The boards of these sheets, numbered on.
abbrev pub boards_from : ℕ → List Sheet → List Board
boards_from number [] = []
boards_from number (sheet ∷ sheets) = record { number = number; sheet = sheet } ∷ boards_from (number + 1) sheets

-- The boards of a campaign.
abbrev pub all_boards : Facts → List Board
all_boards facts = boards_from 0 facts.sheets

-- The place of the board's plugin among the enabled ones, in their order.
abbrev pub plugin_place : Facts → Board → Option ℕ
plugin_place facts board = position (λ vetoes. bytes_eq vetoes.plugin board.sheet.plugin) facts.vetoes

-- The plugin is there and enabled.
abbrev pub is_served : Facts → Board → Bool
is_served facts board = is_some (plugin_place facts board)

-- The board's plugin stands at an earlier place.
abbrev pub is_earlier : Option ℕ → Option ℕ → Bool
is_earlier (Some a) (Some b) = nat_lt a b
is_earlier _ _ = false

abbrev pub is_same_place : Option ℕ → Option ℕ → Bool
is_same_place (Some a) (Some b) = a == b
is_same_place _ _ = false

-- Of two boards of one device ID the first goes before the second: it has the higher priority, or
-- as high a one and an earlier plugin, or the same plugin and an earlier number.
abbrev pub goes_before : Facts → Board → Board → Bool
goes_before facts a b =
    nat_lt b.sheet.priority a.sheet.priority
    || ((a.sheet.priority == b.sheet.priority)
    && (is_earlier (plugin_place facts a) (plugin_place facts b)
    || (is_same_place (plugin_place facts a) (plugin_place facts b) && nat_lt a.number b.number)))

-- Another board has the same device ID, is served, and goes before this one.
abbrev pub is_beaten : Facts → Board → Board → Bool
is_beaten facts board other =
    bytes_eq other.sheet.device board.sheet.device && is_served facts other && goes_before facts other board

-- The board is a device.
abbrev pub is_device : Facts → Board → Bool
is_device facts board = is_served facts board && not (list_any (is_beaten facts board) (all_boards facts))

-- The devices, in board order.
abbrev pub devices : Facts → List Board
devices facts = filter (is_device facts) (all_boards facts)

-- The number of the board at a place among the devices.
abbrev pub board_at : Facts → ℕ → Option ℕ
board_at facts place = option_map (λ b. b.number) (slice_get (devices facts) place)

-- The number of the board that is the device of that ID.
abbrev pub board_with : Facts → List ℕ → Option ℕ
board_with facts device = option_map (λ b. b.number) (find (λ b. bytes_eq b.sheet.device device) (devices facts))

-- The priority rule is one: no two devices have one ID, and each ID of a served board is a device's.
pub record OneDevice (facts : Facts) : Type 0 where
  pub differ : AllPairs (λ a b. a.sheet.device ≢ b.sheet.device) (devices facts)
  pub found : (board : Board) → Contains (all_boards facts) board → is_served facts board ≡ true → is_some (board_with facts board.sheet.device) ≡ true
