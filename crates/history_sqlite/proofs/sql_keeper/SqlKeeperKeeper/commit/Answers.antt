use Rattle.std.proofs.Common.{◌∙◌, List, Some, refl, sym, ap, subst}
use Rattle.sqlite.specs.Held.{state}
use Rattle.history_keeper.specs.declared.row.Row.{Row}
use Rattle.history_keeper.specs.declared.plan.Doubt.{Doubt}
use Rattle.history_keeper.specs.Changes.{Suits}
use Rattle.history_sqlite.specs.Keeping.{Keeping, doubtful}
use Rattle.history_sqlite.specs.Telling.{TellsRows}
use Rattle.history_sqlite.proofs.TellingLemmas.{knows_doubted, told_alike}
use Rattle.history_sqlite.proofs.sql_keeper.SqlKeeperKeeper.commit.Goals as goal

-- the change that may be made later suits the rows
pub invariant_of-self : goal.invariant_of-self
invariant_of-self g c =
    let s = c.self.inside in
    let e = c.self.view_is ∙ c.count_fault.ensures.counted in
    let suits = subst (λ k. (all : List Row) → TellsRows g.D.Store g.D.Lasting.supposed k all → Suits c.args.change.now all) (sym e) c.requires.suits in (
      c.requires.timely,
      knows_doubted g.D.Lasting.supposed (state g.D.Store s.connection) s.tells s.doubt (record { change = c.args.change.now; keep = c.in-Some.plan.keep })
          (λ may so clean all holds. suits all (record { may = may; store_is = so; clean = clean; holds = holds })) c.self.invariant.1,
    )

pub returns-in-Some-clause-committed : goal.returns-in-Some-clause-committed
returns-in-Some-clause-committed g c =
    let s = c.self.inside in
    let e = c.self.view_is ∙ c.count_fault.ensures.counted in
    let doubt : Doubt = record { change = c.args.change.now; keep = c.in-Some.plan.keep } in
    let new : Keeping g.row.D.Denot = record { connection = s.connection; doubt = Some doubt; plan = s.plan.items; calls = s.calls; faults = s.faults; tells = s.tells } in
    (told_alike g.D.Store c.args.self.now new (ap (λ (k : Keeping g.row.D.Denot). k.connection) e) g.D.Lasting.supposed (ap (λ (k : Keeping g.row.D.Denot). k.tells) e), refl)

pub returns-in-Ok-clause-committed : goal.returns-in-Ok-clause-committed
returns-in-Ok-clause-committed g c =
    let e = c.count_call.ensures in (
      λ all t. c.in-Ok.ensures.made all
          (told_alike g.D.Store c.write.new.self c.count_call.new.self (ap (λ (k : Keeping g.row.D.Denot). k.connection) e) g.D.Lasting.supposed (ap (λ (k : Keeping g.row.D.Denot). k.tells) e) all t),
      ap (λ (k : Keeping g.row.D.Denot). doubtful k) e ∙ ap (λ (k : Keeping g.row.D.Denot). doubtful k) c.in-Ok.ensures.no_doubt,
    )
