use Rattle.std.proofs.Common.{[], refl}
use Rattle.sqlite.specs.Held.{Held, state, IsNew}
use Rattle.sqlite.specs.Steps.{over_memory, IsEmpty}
use Rattle.sqlite.specs.State.{HasCleanDisk}
use Rattle.sqlite.proofs.Callers.{memory_is_clean}
use Rattle.sqlite_trees.specs.declared.memory.MemStore.{MemStore}
use Rattle.history_sqlite.specs.Tables.{HoldsRows, Opens}
use Rattle.history_sqlite.proofs.TellingLemmas.{same_rows}
use Rattle.history_sqlite.proofs.sql_keeper.SqlKeeper+MemStore.planned.Goals as goal

made : (old new : Held MemStore) → IsEmpty (state over_memory old) → IsNew old → (HasCleanDisk (state over_memory new) → Opens (state over_memory old) (state over_memory new)) → HoldsRows (state over_memory new) []
made old new empty fresh opens = (opens (memory_is_clean new)).1.1 (record { is_open = empty.0.is_open; schema = empty.2; autocommit = empty.0.autocommit; unlimited = fresh.unlimited })

pub invariant_of-result : goal.invariant_of-result
invariant_of-result c =
    let new = c.make_tables.new.connection in rw c.of.ensures (tt, λ so clean is_open. ([], made c.in-Ok.connection new c.in-Ok.ensures.empty c.in-Ok.ensures.fresh c.in-Ok-make_tables.ensures.opens, tt))

pub returns-in-Ok-make_tables : goal.returns-in-Ok-make_tables
returns-in-Ok-make_tables c =
    let new = c.make_tables.new.connection in
    let holds = made c.in-Ok.connection new c.in-Ok.ensures.empty c.in-Ok.ensures.fresh c.in-Ok-make_tables.ensures.opens in
    rw c.of.ensures (record {
      unused = record { may_tell = refl; no_doubt = refl; plan_is = refl; uncalled = refl; faultless = refl };
      tells = record { may = refl; store_is = tt; clean = memory_is_clean new; holds = holds };
      no_others = λ all t. same_rows (state over_memory new) all [] t.holds holds;
    })
