-- Rows, and what is looked up in them.
use Rattle.std.specs.Prelude.{ℕ, Bool, ◌&&◌, ◌==◌, List}
use Rattle.std.specs.Str.{bytes_eq}
use Rattle.history_keeper.specs.declared.row.Row.{Row}
use Rattle.history_keeper.specs.Histories.{is_unsettled}

-- Rows, and for how many more there is room.
pub record Rows : Type 0 where
  pub rows : List Row
  pub room : ℕ

-- The row has the entry.
abbrev pub has_entry : ℕ → Row → Bool
has_entry entry r = r.entry == entry

-- The row has the tag.
abbrev pub has_tag : List ℕ → Row → Bool
has_tag tag r = bytes_eq tag r.tag

-- The row is of the device, and waits for its end.
abbrev pub waits_on : List ℕ → Row → Bool
waits_on device r = bytes_eq r.device device && is_unsettled r.state
