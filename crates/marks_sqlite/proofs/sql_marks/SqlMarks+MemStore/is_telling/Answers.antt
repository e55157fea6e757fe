use Rattle.std.proofs.Common.{ℕ, Bool, List, IsTrue, refl, subst}
use Rattle.sqlite.specs.Held.{state}
use Rattle.sqlite.specs.Steps.{over_memory}
use Rattle.sqlite.proofs.Callers.{memory_is_clean}
use Rattle.marks_sqlite.specs.Telling.{Knows, TellsMarks}
use Rattle.marks_sqlite.proofs.sql_marks.SqlMarks+MemStore.is_telling.Goals as goal

pub returns-clause-known : goal.returns-clause-known
returns-clause-known c =
    let s = c.self.inside in
    subst (λ k. IsTrue s.tells → (all : List ℕ) × TellsMarks over_memory (Unit {0}) k all) c.self.view_is
    (λ may.
    let clean = memory_is_clean s.connection in
    let some = (subst (λ (b : Bool). Knows b (Unit {0}) (state over_memory s.connection)) may c.self.invariant) tt clean refl in
    (some.0, record { may = may; store_is = tt; clean = clean; holds = some.1 }))
