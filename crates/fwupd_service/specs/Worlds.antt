-- The world outside of a run.
use Rattle.std.specs.Prelude.{ℕ, List, Option}
use Rattle.client_plays.specs.Tools.{ShelfTold}

-- The world outside at a moment: what is known of the shelves, what the input has left, and what the output has taken,
-- where they tell it.
pub record World : Type 0 where
  pub shelves : List ShelfTold
  pub unread : Option (List ℕ)
  pub written : Option (List ℕ)

-- The part of it that a campaign meets once its document was read.
pub record Setting : Type 0 where
  pub shelves : List ShelfTold
  pub written : Option (List ℕ)

abbrev pub setting_in : World → Setting
setting_in world = record { shelves = world.shelves; written = world.written }
