use Rattle.std.proofs.Common.{refl, subst}
use Rattle.sqlite.specs.Held.{state}
use Rattle.history_keeper.specs.Keepers.{StillSettled, StillTold}
use Rattle.history_sqlite.specs.Keeping.{Keeping}
use Rattle.history_sqlite.specs.Telling.{IsSettled, TellsRows, database}
use Rattle.history_sqlite.proofs.Opening.{if_ok, kept_read}
use Rattle.history_sqlite.proofs.TellingLemmas.{given, knows_left, still_settled, still_told}
use Rattle.history_sqlite.proofs.sql_keeper.SqlKeeper.read.Goals as goal

-- the rows are left, whatever it answers
pub invariant_of-self : goal.invariant_of-self
invariant_of-self g c =
    let s = c.self.inside in (
      c.self.invariant.0,
      knows_left g.D.Lasting.supposed (state g.D.Store s.connection) (state g.D.Store c.load.new.self) c.load.ensures.clean c.load.ensures.was_open s.tells s.doubt
          (λ clean is_open. kept_read (state g.D.Store s.connection) (state g.D.Store c.load.new.self) c.load.result (λ loaded. loaded.items) (c.load.ensures.loads clean) (c.load.ensures.refused clean is_open)) c.self.invariant.1,
    )

pub returns-clause-unchanged : goal.returns-clause-unchanged
returns-clause-unchanged g c =
    let new : Keeping g.row.D.Denot = record { connection = c.load.new.self; doubt = c.self.inside.doubt; plan = c.self.inside.plan.items; calls = c.self.inside.calls; faults = c.self.inside.faults; tells = c.self.inside.tells } in
    subst (λ k. StillTold (TellsRows g.D.Store g.D.Lasting.supposed k) (TellsRows g.D.Store g.D.Lasting.supposed new)) c.self.view_is
    (still_told g.D.Store g.D.Lasting.supposed (record { connection = c.self.inside.connection; doubt = c.self.inside.doubt; plan = c.self.inside.plan.items; calls = c.self.inside.calls; faults = c.self.inside.faults; tells = c.self.inside.tells }) new refl c.self.invariant.1 c.load.ensures.clean c.load.ensures.was_open
    (λ clean is_open. kept_read (state g.D.Store c.self.inside.connection) (state g.D.Store c.load.new.self) c.load.result (λ loaded. loaded.items) (c.load.ensures.loads clean) (c.load.ensures.refused clean is_open)))

pub returns-clause-answer : goal.returns-clause-answer
returns-clause-answer g c =
    let new : Keeping g.row.D.Denot = record { connection = c.load.new.self; doubt = c.self.inside.doubt; plan = c.self.inside.plan.items; calls = c.self.inside.calls; faults = c.self.inside.faults; tells = c.self.inside.tells } in
    if_ok c.load.result _ (λ loaded is. given g.D.Store g.D.Lasting.supposed (record { connection = c.self.inside.connection; doubt = c.self.inside.doubt; plan = c.self.inside.plan.items; calls = c.self.inside.calls; faults = c.self.inside.faults; tells = c.self.inside.tells }) new refl c.self.invariant.1 c.load.ensures.clean c.load.ensures.was_open loaded.items
    (λ clean. rw is at (c.load.ensures.loads clean)))

pub returns-clause-settled : goal.returns-clause-settled
returns-clause-settled g c =
    let new : Keeping g.row.D.Denot = record { connection = c.load.new.self; doubt = c.self.inside.doubt; plan = c.self.inside.plan.items; calls = c.self.inside.calls; faults = c.self.inside.faults; tells = c.self.inside.tells } in
    subst (λ k. StillSettled (IsSettled g.D.Store) k new) c.self.view_is
    (λ first s. still_settled (database g.D.Store first) (state g.D.Store c.self.inside.connection) (state g.D.Store c.load.new.self) first.doubt c.self.inside.doubt c.load.ensures.clean c.load.ensures.was_open
    (λ clean is_open. kept_read (state g.D.Store c.self.inside.connection) (state g.D.Store c.load.new.self) c.load.result (λ loaded. loaded.items) (c.load.ensures.loads clean) (c.load.ensures.refused clean is_open)) s)

pub returns-clause-loads : goal.returns-clause-loads
returns-clause-loads g c clean = rw (← c.self.view_is) (c.load.ensures.loads clean)
