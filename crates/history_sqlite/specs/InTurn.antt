-- What is read of the rows that a select shows one at a time.
use Rattle.std.specs.Prelude.{◌≡◌, List, [], ◌∷◌, ◌++◌, map, Some, None}
use Rattle.sqlite.specs.declared.error.Error.{Error}
use Rattle.sqlite.specs.declared.types.Value.{Value}
use Rattle.sqlite.specs.Given.{Advances, HasGiven}
use Rattle.sqlite.specs.Held.{Held, state}
use Rattle.sqlite.specs.State.{FailsToQuery, IsUnchanged}
use Rattle.sqlite.specs.Store.{Ghosts}
use Rattle.history_keeper.specs.declared.row.Row.{Row}
use Rattle.history_sqlite.specs.declared.in_turn.Turn.{Turn}
use Rattle.history_sqlite.specs.Causes.{IsRead, select_text}
use Rattle.history_sqlite.specs.Columns.{row_read}

module _ {D : Type 0} (store : Ghosts D) where
  -- What one turn did: it read the row that the select showed next, there was none left, or it read none.
  abbrev pub Turned : Turn → Held D → Held D → List Row → List Row → Type 0
  Turned Turn.Read old new before after = (columns : List Value) × Advances store old new (Some columns) × (map Some after ≡ map Some before ++ row_read columns ∷ [])
  Turned Turn.End old new before after = Advances store old new None × (after ≡ before)
  Turned Turn.Stuck old new before after = Unit {0}

  -- The select was begun, and has shown nothing yet.
  abbrev pub IsBegun : Held D → Type 0
  IsBegun h = HasGiven store select_text [] h []

  -- It has shown these rows so far, each of which is one.
  abbrev pub HasShown : Held D → List Row → Type 0
  HasShown h read = (shown : List (List Value)) × HasGiven store select_text [] h shown × (map Some read ≡ map row_read shown)

  -- All that it shows was read, and these are the rows.
  abbrev pub ReadsAll : Held D → Held D → List Row → Type 0
  ReadsAll old new read = IsBegun old → IsRead (state store old) (state store new) read

  -- Reading changed nothing.
  abbrev pub ReadsAlone : Held D → Held D → Type 0
  ReadsAlone old new = IsBegun old → IsUnchanged (state store old) (state store new)

  -- The select was refused as it was read.
  abbrev pub FailsOn : Held D → Held D → Error → Type 0
  FailsOn old new e = IsBegun old → FailsToQuery select_text [] (state store old) (state store new) e
