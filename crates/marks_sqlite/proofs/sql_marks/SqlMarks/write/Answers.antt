use Rattle.std.proofs.Common.{None, refl, subst}
use Rattle.sqlite.specs.Held.{state}
use Rattle.report_queue.specs.Marking.{MarksStay, MarksWith}
use Rattle.marks_sqlite.specs.Keeping.{Keeping}
use Rattle.marks_sqlite.specs.Telling.{TellsMarks}
use Rattle.marks_sqlite.proofs.MarksTold.{knows_left, knows_made, still_told, told_made}
use Rattle.marks_sqlite.proofs.sql_marks.SqlMarks.write.Goals as goal

pub invariant_of-self : goal.invariant_of-self
invariant_of-self g c =
    let s = c.self.inside in
    knows_made g.D.Lasting.supposed (state g.D.Store s.connection) (state g.D.Store c.insert.new.connection) c.insert.ensures.clean c.insert.ensures.was_open s.tells c.args.entry c.in-Ok.ensures.adds c.self.invariant

pub invariant_of-self-in-Err : goal.invariant_of-self-in-Err
invariant_of-self-in-Err g c =
    let s = c.self.inside in
    knows_left g.D.Lasting.supposed (state g.D.Store s.connection) (state g.D.Store c.insert.new.connection) c.insert.ensures.clean c.insert.ensures.was_open s.tells c.in-Err.ensures.refused c.self.invariant

pub returns-in-Ok-clause-made : goal.returns-in-Ok-clause-made
returns-in-Ok-clause-made g c =
    let new : Keeping g.row.D.Denot = record { connection = c.insert.new.connection; doubt = None; plan = c.self.inside.plan.items; calls = c.self.inside.calls; faults = c.self.inside.faults; tells = c.self.inside.tells } in
    subst (λ k. MarksWith c.args.entry (TellsMarks g.D.Store g.D.Lasting.supposed k) (TellsMarks g.D.Store g.D.Lasting.supposed new)) c.self.view_is
    (told_made g.D.Store g.D.Lasting.supposed (record { connection = c.self.inside.connection; doubt = c.self.inside.doubt; plan = c.self.inside.plan.items; calls = c.self.inside.calls; faults = c.self.inside.faults; tells = c.self.inside.tells }) new refl c.self.invariant c.insert.ensures.clean c.insert.ensures.was_open c.args.entry c.in-Ok.ensures.adds)

pub returns-in-Err-clause-unchanged : goal.returns-in-Err-clause-unchanged
returns-in-Err-clause-unchanged g c =
    let new : Keeping g.row.D.Denot = record { connection = c.insert.new.connection; doubt = c.self.inside.doubt; plan = c.self.inside.plan.items; calls = c.self.inside.calls; faults = c.self.inside.faults; tells = c.self.inside.tells } in
    subst (λ k. MarksStay (TellsMarks g.D.Store g.D.Lasting.supposed k) (TellsMarks g.D.Store g.D.Lasting.supposed new)) c.self.view_is
    (still_told g.D.Store g.D.Lasting.supposed (record { connection = c.self.inside.connection; doubt = c.self.inside.doubt; plan = c.self.inside.plan.items; calls = c.self.inside.calls; faults = c.self.inside.faults; tells = c.self.inside.tells }) new refl c.self.invariant c.insert.ensures.clean c.insert.ensures.was_open c.in-Err.ensures.refused)
