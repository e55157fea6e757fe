use Rattle.std.proofs.Common.{List, None, refl, sym, subst}
use Rattle.sqlite.specs.Held.{state}
use Rattle.history_keeper.specs.declared.row.Row.{Row}
use Rattle.history_keeper.specs.Changes.{Suits}
use Rattle.history_keeper.specs.Keepers.{StillTold, ToldWith}
use Rattle.history_sqlite.specs.Keeping.{Keeping}
use Rattle.history_sqlite.specs.Telling.{TellsRows}
use Rattle.history_sqlite.proofs.TellingLemmas.{knows_left, knows_made, still_told, told_made}
use Rattle.history_sqlite.proofs.sql_keeper.SqlKeeper.write.Goals as goal

pub invariant_of-self : goal.invariant_of-self
invariant_of-self g c =
    let s = c.self.inside in
    let suits = subst (λ k. (all : List Row) → TellsRows g.D.Store g.D.Lasting.supposed k all → Suits c.args.change.now all) (sym c.self.view_is) c.requires.suits in (
      tt,
      knows_made g.D.Lasting.supposed (state g.D.Store s.connection) (state g.D.Store c.make.new.self) c.make.ensures.clean c.make.ensures.was_open s.tells c.args.change.now s.doubt
          (λ may so clean all holds. suits all (record { may = may; store_is = so; clean = clean; holds = holds })) c.in-Ok.ensures.makes c.self.invariant.1,
    )

pub invariant_of-self-in-Err : goal.invariant_of-self-in-Err
invariant_of-self-in-Err g c =
    let s = c.self.inside in (
      c.self.invariant.0,
      knows_left g.D.Lasting.supposed (state g.D.Store s.connection) (state g.D.Store c.make.new.self) c.make.ensures.clean c.make.ensures.was_open s.tells s.doubt c.in-Err.ensures.refused c.self.invariant.1,
    )

pub returns-in-Ok-clause-made : goal.returns-in-Ok-clause-made
returns-in-Ok-clause-made g c =
    let suits = subst (λ k. (all : List Row) → TellsRows g.D.Store g.D.Lasting.supposed k all → Suits c.args.change.now all) (sym c.self.view_is) c.requires.suits in
    let new : Keeping g.row.D.Denot = record { connection = c.make.new.self; doubt = None; plan = c.self.inside.plan.items; calls = c.self.inside.calls; faults = c.self.inside.faults; tells = c.self.inside.tells } in
    subst (λ k. ToldWith c.args.change.now (TellsRows g.D.Store g.D.Lasting.supposed k) (TellsRows g.D.Store g.D.Lasting.supposed new)) c.self.view_is
    (told_made g.D.Store g.D.Lasting.supposed (record { connection = c.self.inside.connection; doubt = c.self.inside.doubt; plan = c.self.inside.plan.items; calls = c.self.inside.calls; faults = c.self.inside.faults; tells = c.self.inside.tells }) new refl c.self.invariant.1 c.make.ensures.clean c.make.ensures.was_open c.args.change.now suits c.in-Ok.ensures.makes)

pub returns-in-Err-clause-unchanged : goal.returns-in-Err-clause-unchanged
returns-in-Err-clause-unchanged g c =
    let new : Keeping g.row.D.Denot = record { connection = c.make.new.self; doubt = c.self.inside.doubt; plan = c.self.inside.plan.items; calls = c.self.inside.calls; faults = c.self.inside.faults; tells = c.self.inside.tells } in
    subst (λ k. StillTold (TellsRows g.D.Store g.D.Lasting.supposed k) (TellsRows g.D.Store g.D.Lasting.supposed new)) c.self.view_is
    (still_told g.D.Store g.D.Lasting.supposed (record { connection = c.self.inside.connection; doubt = c.self.inside.doubt; plan = c.self.inside.plan.items; calls = c.self.inside.calls; faults = c.self.inside.faults; tells = c.self.inside.tells }) new refl c.self.invariant.1 c.make.ensures.clean c.make.ensures.was_open c.in-Err.ensures.refused)
