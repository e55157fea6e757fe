-- The section `boots`, with the scripts of the clients. The lines of a `do` are the fields in their
-- order: word, kind, default.
use Rattle.std.specs.Prelude.{ℕ, ◌+◌, nat_lt, List, [], length, position, sum_by, Result, Ok}
use Rattle.std.specs.Str.{bytes_eq}
use Rattle.client_scripts.specs.declared.item.Item.{Item}
use Rattle.serde_json.specs.Data.{Data}
use Rattle.release_catalogue.specs.declared.word.Word.TheVariants as words
use Rattle.release_catalogue.specs.declared.reason.Reason.TheVariants.{TooMany, BadReference}
use Rattle.release_catalogue.specs.declared.spot.Level.TheVariants.{First, Second, Third, Whole}
use Rattle.release_catalogue.specs.declared.spot.Spot.{Spot}
use Rattle.release_catalogue.specs.declared.spot.Fault.{Fault}
use Rattle.release_catalogue.specs.Reading.{◌>>=◌, each, entry_spot, maybe, optional, or_fault, refuse_if, the}
use Rattle.release_catalogue.specs.Kinds.{items_at, items_len, list_at, number_at, object_at, text_at}
use Rattle.site_scripts.specs.declared.boots.Boot.{Boot}
use Rattle.site_scripts.specs.Items.{item_at}
use Rattle.site_scripts.specs.Places.{spot_in}

-- ---- scripts, one of each client

unfoldable pub script_at : ℕ → Spot → Data → Result (List Item) Fault
script_at taken spot d = do
  ds ← items_at spot d
  each (λ earlier. item_at (taken + length earlier)) (entry_spot spot Third) [] ds

-- How many items some scripts have.
abbrev pub items_in : List (List Item) → ℕ
items_in scripts = sum_by length scripts

-- The scripts of a boot: at most as many as there are clients.
unfoldable pub scripts_at : ℕ → ℕ → Spot → Spot → Data → Result (List (List Item)) Fault
scripts_at clients taken base spot d = do
  ds ← items_at spot d
  fits ← refuse_if (nat_lt clients (items_len ds)) spot TooMany
  each (λ earlier. script_at (taken + items_in earlier)) (entry_spot base Second) [] ds

-- ---- boots

-- A board's place in the document, by its port.
abbrev pub absent_at : List (List ℕ) → Spot → Data → Result ℕ Fault
absent_at ports spot d = do
  text ← text_at spot d
  or_fault spot BadReference (position (bytes_eq text) ports)

-- Any number of boards.
abbrev pub absents_at : List (List ℕ) → Spot → Data → Result (List ℕ) Fault
absents_at ports spot d = do
  ds ← items_at spot d
  each (λ _. absent_at ports) (entry_spot spot Whole) [] ds

-- A boot, where the boots before it have so many items.
unfoldable pub boot_at : List (List ℕ) → ℕ → ℕ → Spot → Data → Result Boot Fault
boot_at ports clients taken spot d = do
  here ← object_at spot d
  time ← the spot words.Time (number_at 0 9223372036854775807) d
  limit ← maybe spot words.CutAfter (number_at 0 1000000) d
  absent ← optional spot words.Absent (absents_at ports) [] d
  scripts ← optional spot words.Scripts (scripts_at clients taken spot) [] d
  Ok (record { plan = record { time = time; limit = limit; absent = absent }; scripts = scripts })

-- How many items some boots have.
abbrev pub items_of_boots : List Boot → ℕ
items_of_boots boots = sum_by (λ boot. items_in boot.scripts) boots

-- Up to 32 boots.
abbrev pub boots_at : List (List ℕ) → ℕ → Spot → Data → Result (List Boot) Fault
boots_at ports clients spot d =
    list_at 32 (λ earlier. boot_at ports clients (items_of_boots earlier)) spot (spot_in words.Boots words.Entry) First d
