-- What the house log holds of the rows that a boot loaded, and how contracts see the house log.
use Rattle.std.specs.Prelude.{◌≡◌, ◌-◌, Bool, true, false, List, map, min, vec_len, vec_capacity}
use Rattle.history_keeper.specs.declared.row.Row.{Row}
use Rattle.row_index.specs.Formers.{as_were, former_of}
use Rattle.daemon_core.specs.declared.house_log.HouseLog.TheInside.{Inside}
use Rattle.daemon_core.specs.declared.house_log.opening.Opening.{Opening}
use Rattle.daemon_core.specs.HouseLog.{IsHouseLog}
use Rattle.daemon_core.specs.Housed.{HouseLogView}

-- A boot took them for the rows before the log.
abbrev pub is_taken : Opening → Bool
is_taken (Opening.Untaken loaded) = false
is_taken (Opening.Taken formers) = true

-- They are held themselves, or are the first rows of the log, as they were.
abbrev pub opening_in : Opening → List Row → List Row
opening_in (Opening.Untaken loaded) rows = loaded.items
opening_in (Opening.Taken formers) rows = as_were formers.items rows

-- What is held of taken rows is what each of them was.
abbrev pub IsOpening : Opening → List Row → Type 0
IsOpening (Opening.Untaken loaded) rows = Unit {0}
IsOpening (Opening.Taken formers) rows = formers.items ≡ map former_of (as_were formers.items rows)

-- The house log as contracts see it.
abbrev pub house_log_of : Inside → HouseLogView
house_log_of a =
    record {
      facts = a.facts;
      first = a.first.items;
      opening = opening_in a.opening a.core.rows;
      loaded = is_taken a.opening;
      reopened = a.reopened;
      core = a.core;
      makers = a.makers.items;
      room = min a.core.room (vec_capacity a.makers - vec_len a.makers);
    }

-- What its type keeps.
pub record IsKept (a : Inside) : Type 0 where
  pub house_log : IsHouseLog (house_log_of a)
  pub opening : IsOpening a.opening a.core.rows
