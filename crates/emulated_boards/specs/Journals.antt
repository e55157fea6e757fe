-- Journals: what a board wrote down, and the room that is kept for more.
use Rattle.std.specs.Prelude.{ℕ, List}
use Rattle.emulated_boards.specs.declared.mark.Mark.{Mark}

-- the marks, the oldest first, and how many more fit without memory
pub record MarksAndRoom : Type 0 where
  pub marks : List Mark
  pub room : ℕ
