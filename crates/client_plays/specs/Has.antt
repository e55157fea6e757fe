-- What a worker has.
use Rattle.std.specs.Prelude.{ℕ, List, Option, map}
use Rattle.client_plays.specs.Tools.{ShelfTold, Tools}

-- What is known of a shelf.
abbrev pub shelf_told : {P : Type 0} → (P → Option (List (List ℕ × List ℕ))) → (P → ℕ) → P → ShelfTold
shelf_told files faults shelf = record { files = files shelf; faults = faults shelf }

-- What is known of its shelves, in their order.
abbrev pub shelves_told : {P : Type 0} → (P → Option (List (List ℕ × List ℕ))) → (P → ℕ) → List P → List ShelfTold
shelves_told files faults shelves = map (shelf_told files faults) shelves

-- The plugins and the shelves that a worker has.
abbrev pub tools_of : {P : Type 0} → (P → Option (List (List ℕ × List ℕ))) → (P → ℕ) → ℕ → List P → Tools
tools_of files faults plugins shelves = record { plugins = plugins; shelves = shelves_told files faults shelves }
