-- Words on lists of entries, the oldest entry first. The function `by` gives the number that an entry holds.
use Rattle.std.specs.Prelude.{◌≡◌, ◌⊎◌, ℕ, ◌==◌, List, [], ◌∷◌, ◌++◌, filter, length, drop}

module _ {E : Type 0} where
  -- the list begins with what was seen
  abbrev pub BeginsWith : List E → List E → Type 0
  BeginsWith list seen = (rest : List E) × (list ≡ seen ++ rest)

  -- what the list has beyond what was seen
  abbrev pub beyond : List E → List E → List E
  beyond seen list = drop (length seen) list

  -- the entries that hold this number, in order
  abbrev pub made_by : (E → ℕ) → ℕ → List E → List E
  made_by by number list = filter (λ entry. by entry == number) list

  -- the list is what was seen, or that and one entry which holds this number
  abbrev pub AddsAtMostOne : (E → ℕ) → ℕ → List E → List E → Type 0
  AddsAtMostOne by number seen list = (list ≡ seen) ⊎ ((entry : E) × (by entry ≡ number) × (list ≡ seen ++ entry ∷ []))
