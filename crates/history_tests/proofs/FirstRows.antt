-- A first row may be added where no row is told.
use Rattle.std.proofs.Common.{◌≡◌, List, [], sym, subst}
use Rattle.std.specs.Prelude.{◌≢◌}
use Rattle.std.proofs.lemmas.List.Elements.{All-nil}
use Rattle.history_keeper.specs.declared.row.Row.{Row}
use Rattle.history_keeper.specs.declared.change.Change.{Change}
use Rattle.history_keeper.specs.Changes.{Suits}

pub suits-first : (row : Row) (all : List Row) → row.entry ≡ 1 → all ≡ [] → Suits (Change.Add row) all
suits-first row all first none = subst (Suits (Change.Add row)) (sym none) (first, All-nil (λ (other : Row). other.tag ≢ row.tag))
