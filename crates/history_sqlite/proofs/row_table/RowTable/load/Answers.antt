use Rattle.std.proofs.Common.{◌∙◌, subst, sym}
use Rattle.sqlite.specs.Held.{state}
use Rattle.history_sqlite.specs.Causes.{AreAtHand, IsRead}
use Rattle.history_sqlite.specs.Tables.{Loads}
use Rattle.history_sqlite.proofs.AtHand.{loads_at_hand}
use Rattle.history_sqlite.proofs.row_table.RowTable.load.Goals as goal

-- the rows at hand are those of the table
pub returns-in-Some-clause-loads : goal.returns-in-Some-clause-loads
returns-in-Some-clause-loads g c clean =
    let s = state g.D.Store c.self.inside.connection in
    let at_hand = (rw (sym c.take.ensures.value ∙ c.in-Some.is) at c.self.invariant) clean in
    subst (λ h. Loads (state g.D.Store h) s c.in-Some.rows.items) c.self.view_is (loads_at_hand s c.in-Some.rows.items at_hand)

pub returns-in-Some-clause-read : goal.returns-in-Some-clause-read
returns-in-Some-clause-read g c clean =
    let s = state g.D.Store c.self.inside.connection in
    let at_hand = (rw (sym c.take.ensures.value ∙ c.in-Some.is) at c.self.invariant) clean in
    subst (λ h. IsRead (state g.D.Store h) s c.in-Some.rows.items) c.self.view_is at_hand

pub returns-in-None-clause-loads : goal.returns-in-None-clause-loads
returns-in-None-clause-loads g c clean = rw (← c.self.view_is) (c.load_rows.ensures.loads clean)
