-- Rows as they were before they were changed.
use Rattle.std.specs.Prelude.{List, [], ◌∷◌}
use Rattle.row_index.specs.declared.former.Former.{Former}
use Rattle.history_keeper.specs.declared.row.Row.{Row}

-- What a change can change of a row, as it is now.
abbrev pub former_of : Row → Former
former_of row = record { state = row.state; reason = row.reason; time_changed = row.time_changed }

-- The row as it was then.
abbrev pub as_before : Former → Row → Row
as_before former row = record row { state = former.state; reason = former.reason; time_changed = former.time_changed }

-- The first rows, one for each former state, as they were then.
abbrev pub as_were : List Former → List Row → List Row
as_were [] rows = []
as_were (former ∷ formers) [] = []
as_were (former ∷ formers) (row ∷ rows) = as_before former row ∷ as_were formers rows
