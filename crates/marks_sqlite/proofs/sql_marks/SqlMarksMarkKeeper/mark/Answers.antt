use Rattle.std.proofs.Common.{◌∙◌, Some, refl, ap}
use Rattle.report_queue.specs.declared.memory_marks.DoubtfulMark.{DoubtfulMark}
use Rattle.marks_sqlite.specs.Keeping.{Keeping, doubtful}
use Rattle.marks_sqlite.proofs.MarksTold.{told_alike}
use Rattle.marks_sqlite.proofs.sql_marks.SqlMarksMarkKeeper.mark.Goals as goal

pub returns-in-Some-clause-marked : goal.returns-in-Some-clause-marked
returns-in-Some-clause-marked g c =
    let s = c.self.inside in
    let e = c.self.view_is ∙ c.count_fault.ensures.counted in
    let doubt : DoubtfulMark = record { entry = c.args.entry; keep = c.in-Some.plan.keep } in
    let new : Keeping g.row.D.Denot = record { connection = s.connection; doubt = Some doubt; plan = s.plan.items; calls = s.calls; faults = s.faults; tells = s.tells } in
    (told_alike g.D.Store g.D.Lasting.supposed c.args.self.now new (ap (λ (k : Keeping g.row.D.Denot). k.connection) e) (ap (λ (k : Keeping g.row.D.Denot). k.tells) e), refl)

pub returns-in-Ok-clause-marked : goal.returns-in-Ok-clause-marked
returns-in-Ok-clause-marked g c =
    let e = c.count_call.ensures in (
      λ all t. c.in-Ok.ensures.made all
          (told_alike g.D.Store g.D.Lasting.supposed c.write.new.self c.count_call.new.self (ap (λ (k : Keeping g.row.D.Denot). k.connection) e) (ap (λ (k : Keeping g.row.D.Denot). k.tells) e) all t),
      ap (λ (k : Keeping g.row.D.Denot). doubtful k) e ∙ ap (λ (k : Keeping g.row.D.Denot). doubtful k) c.in-Ok.ensures.no_doubt,
    )
