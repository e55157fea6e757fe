-- What became of a change that a keeper was to make.
use Rattle.std.specs.Prelude.{◌≡◌, List, Option, Some, None}
use Rattle.history_keeper.specs.declared.row.Row.{Row}
use Rattle.history_keeper.specs.declared.change.Change.{Change}
use Rattle.history_keeper.specs.Keepers.{StillTold, ToldWith}
use Rattle.update_log.specs.declared.event.Stored.{Stored}

-- The rows that a keeper tells, before and after it was to make the change, and the doubt that it is in
-- then. It always answers whether the change was made.
abbrev pub StoredAs : Change → Stored → (List Row → Type 0) → (List Row → Type 0) → Option Change → Type 0
StoredAs change Stored.Yes old new doubt = ToldWith change old new × (doubt ≡ None)
StoredAs change Stored.Fault old new doubt = StillTold old new × (doubt ≡ Some change)
StoredAs change Stored.NoMemory old new doubt = StillTold old new × (doubt ≡ None)
StoredAs change Stored.Unchanged old new doubt = ⊥
