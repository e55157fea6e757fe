use Rattle.std.proofs.Common.{◌≡◌, IsTrue}
use Rattle.sqlite.specs.Held.{state}
use Rattle.sqlite.specs.State.{HasCleanDisk, KeepsCommit, Survives}
use Rattle.history_sqlite.proofs.Copying.{CopiesBlocks}
use Rattle.history_sqlite.proofs.taking_over.insert_each.Given as goal

abbrev pub invariant-loop-turn : goal.invariant-loop-turn
invariant-loop-turn g l = record {
  same_reference : l.transaction.conn.ghost_name ≡ l.initial.transaction.conn.ghost_name;
  copies : HasCleanDisk (state g.D.Store l.transaction.conn.now) → CopiesBlocks (state g.D.Store l.initial.transaction.conn.now) (state g.D.Store l.transaction.conn.now) l.turn;
  inside : HasCleanDisk (state g.D.Store l.transaction.conn.now) → IsTrue l.initial.transaction.conn.now.in_transaction → IsTrue l.transaction.conn.now.in_transaction;
  kept : HasCleanDisk (state g.D.Store l.transaction.conn.now) → IsTrue l.initial.transaction.conn.now.in_transaction → KeepsCommit (state g.D.Store l.initial.transaction.conn.now) (state g.D.Store l.transaction.conn.now);
  survives : Survives (state g.D.Store l.initial.transaction.conn.now) (state g.D.Store l.transaction.conn.now) (λ _. ⊥);
}
