use Rattle.std.proofs.Common.{[], refl}
use Rattle.sqlite.specs.Held.{Held, IsNew, state}
use Rattle.sqlite.specs.Steps.{over_memory, IsEmpty}
use Rattle.sqlite.specs.State.{HasCleanDisk}
use Rattle.sqlite.proofs.Callers.{memory_is_clean}
use Rattle.sqlite_trees.specs.declared.memory.MemStore.{MemStore}
use Rattle.marks_sqlite.specs.Tables.{HoldsMarks, Opens}
use Rattle.marks_sqlite.proofs.sql_marks.SqlMarks+MemStore.planned.Goals as goal

made : (old new : Held MemStore) → IsEmpty (state over_memory old) → IsNew old → (HasCleanDisk (state over_memory new) → Opens (state over_memory old) (state over_memory new)) → HoldsMarks (state over_memory new) []
made old new empty fresh opens = (opens (memory_is_clean new)).1 (record { is_open = empty.0.is_open; schema = empty.2; autocommit = empty.0.autocommit; unlimited = fresh.unlimited })

pub invariant_of-result : goal.invariant_of-result
invariant_of-result c =
    let new = c.make_table.new.connection in (λ so clean is_open. ([], made c.in-Ok.connection new c.in-Ok.ensures.empty c.in-Ok.ensures.fresh c.in-Ok-make_table.ensures.opens))

pub returns-in-Ok-make_table : goal.returns-in-Ok-make_table
returns-in-Ok-make_table c =
    let new = c.make_table.new.connection in
    record {
      unused = record { may_tell = refl; no_doubt = refl; plan_is = refl; uncalled = refl; faultless = refl };
      tells = record { may = refl; store_is = tt; clean = memory_is_clean new; holds = made c.in-Ok.connection new c.in-Ok.ensures.empty c.in-Ok.ensures.fresh c.in-Ok-make_table.ensures.opens };
    }
