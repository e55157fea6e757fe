use Rattle.std.proofs.Common.{◌≡◌}
use Rattle.sqlite.specs.Held.{state}
use Rattle.sqlite.specs.State.{HasCleanDisk, IsUnchanged, Survives}
use Rattle.history_sqlite.specs.InTurn.{HasShown, IsBegun}
use Rattle.history_sqlite.proofs.in_turn.read_on.Given as goal

abbrev pub invariant-turns : goal.invariant-turns
invariant-turns g l = record {
  same_reference : l.shown.conn.ghost_name ≡ l.initial.shown.conn.ghost_name;
  survives : Survives (state g.D.Store l.initial.shown.conn.now) (state g.D.Store l.shown.conn.now) (λ _. ⊥);
  so_far : HasCleanDisk (state g.D.Store l.shown.conn.now) → IsBegun g.D.Store l.initial.shown.conn.now
      → IsUnchanged (state g.D.Store l.initial.shown.conn.now) (state g.D.Store l.shown.conn.now) × HasShown g.D.Store l.shown.conn.now l.read.items;
}
