use Rattle.std.proofs.Common.{◌≡◌, ◌++◌, All, length, map}
use Rattle.turn_lock.specs.Shown.{IsReady}
use Rattle.turn_lock.specs.Views.{CanTakeIn, accounts_of, knowledge_of}
use Rattle.turn_lock.proofs.closing.gather.Given as goal

abbrev pub invariant-loop-pass : goal.invariant-loop-pass
invariant-loop-pass g l = record {
  seat : l.closer.table_id ≡ l.table.table_id;
  closer : CanTakeIn l.closer.me.0;
  ready : All (IsReady l.table.table_id) l.passes.items;
  accounts : map knowledge_of l.passes.items ++ accounts_of l.closer.me.0 ≡ map knowledge_of l.fn.passes.items;
}

abbrev pub decreases-loop-pass : goal.decreases-loop-pass
decreases-loop-pass g l = length l.passes.items
