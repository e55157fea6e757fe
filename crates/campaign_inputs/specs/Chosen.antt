-- Some of a list, by their places.
use Rattle.std.specs.Prelude.{◌≡◌, ℕ, List, Option, Some, map, slice_get}

-- these are the elements at the places, in their order, and each place has one
abbrev pub AreAt : {A : Type 0} → List A → List ℕ → List A → Type 0
AreAt all places chosen = map Some chosen ≡ map (slice_get all) places

-- the slot at a place is there, and something is in it
abbrev pub IsFull : {A : Type 0} → List (Option A) → ℕ → Type 0
IsFull {A = A} slots at = (x : A) × (slice_get slots at ≡ Some (Some x))
