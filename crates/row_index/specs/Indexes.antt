-- Where rows stand.
use Rattle.std.specs.Prelude.{◌≡◌, ℕ, suc, ◌-◌, ◌≤◌, Bool, true, List, [], ◌∷◌, Option, Some, None, if◌then◌else◌, option_map, slice_get, vec_len, vec_capacity, Vec}
use Rattle.std.specs.Option.{option_map_or}
use Rattle.std.specs.Str.{bytes_eq}
use Rattle.std.specs.declared.alloc.Global.{Global}
use Rattle.indexmap.specs.IndexMap.{IndexMap, get, spare}
use Rattle.history_keeper.specs.declared.row.Row.{Row}
use Rattle.history_keeper.specs.Histories.{is_unsettled}
use Rattle.history_keeper.specs.Numbers.{IsNumbered}
use Rattle.row_index.specs.Rows.{has_tag, waits_on}

-- The place of the first row that passes a test.
abbrev pub place_of : (Row → Bool) → List Row → Option ℕ
place_of test [] = None
place_of test (r ∷ rows) = if test r then Some 0 else option_map suc (place_of test rows)

-- A place that is noted where none was.
abbrev pub or_noted : Option ℕ → Bool → ℕ → Option ℕ
or_noted (Some before) here at = Some before
or_noted None here at = if here then Some at else None

-- A row that waits once it was changed waited before.
abbrev pub WaitsFromBefore : (Row → Row) → List Row → Type 0
WaitsFromBefore change rows = (at : ℕ) (r : Row) → slice_get rows at ≡ Some r → is_unsettled (change r).state ≡ true → is_unsettled r.state ≡ true

-- The row at a place, as a list, and no row where no place is told.
abbrev pub row_at : List Row → Option ℕ → List Row
row_at rows None = []
row_at rows (Some at) = option_map_or (λ r. r ∷ []) (slice_get rows at) []

module _ {S : Type 0} where
  -- The maps tell of each tag the place of the first row that has it, and of each device the place of
  -- the row that waits on it, where one does. So at most one row waits on a device.
  pub record IsIndexOf (rows : List Row) (tags waiting : IndexMap (List ℕ) ℕ S) : Type 0 where
    pub numbered : IsNumbered rows
    pub of_tags : (tag : List ℕ) → get bytes_eq tags tag ≡ place_of (has_tag tag) rows
    pub of_devices : (device : List ℕ) (at : ℕ) (r : Row) → slice_get rows at ≡ Some r → waits_on device r ≡ true → get bytes_eq waiting device ≡ Some at

  -- So many entries more fit into both maps.
  pub record HasRoom (more : ℕ) (tags waiting : IndexMap (List ℕ) ℕ S) : Type 0 where
    pub for_tags : more ≤ spare tags
    pub for_devices : more ≤ spare waiting

  -- The maps are kept beside the rows: they have room for each row that the list has room for.
  pub record IsKept (rows : Vec Row Global) (tags waiting : IndexMap (List ℕ) ℕ S) : Type 0 where
    pub index : IsIndexOf rows.items tags waiting
    pub room : HasRoom (vec_capacity rows - vec_len rows) tags waiting
