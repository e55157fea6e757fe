use Rattle.std.proofs.Common.{Bool, List, IsTrue, refl, subst}
use Rattle.sqlite.specs.Held.{state}
use Rattle.sqlite.specs.Steps.{over_memory}
use Rattle.sqlite.proofs.Callers.{memory_is_clean}
use Rattle.history_keeper.specs.declared.row.Row.{Row}
use Rattle.history_sqlite.specs.Telling.{Knows, TellsRows}
use Rattle.history_sqlite.proofs.sql_keeper.SqlKeeper+MemStore.is_telling.Goals as goal

pub returns-clause-known : goal.returns-clause-known
returns-clause-known c =
    let s = c.self.inside in
    subst (λ k. IsTrue s.tells → (all : List Row) × TellsRows over_memory (Unit {0}) k all) c.self.view_is
    (λ may.
    let clean = memory_is_clean s.connection in
    let some = (subst (λ (b : Bool). Knows b (Unit {0}) (state over_memory s.connection) s.doubt) may c.self.invariant.1) tt clean refl in
    (some.0, record { may = may; store_is = tt; clean = clean; holds = some.1 }))
