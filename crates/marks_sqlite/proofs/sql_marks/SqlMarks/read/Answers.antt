use Rattle.std.proofs.Common.{refl, subst}
use Rattle.sqlite.specs.Held.{state}
use Rattle.report_queue.specs.Marking.{MarksStay}
use Rattle.history_sqlite.proofs.Opening.{if_ok}
use Rattle.marks_sqlite.specs.Keeping.{Keeping}
use Rattle.marks_sqlite.specs.Telling.{TellsMarks}
use Rattle.marks_sqlite.proofs.MarksTold.{given, kept_read, knows_left, still_told}
use Rattle.marks_sqlite.proofs.sql_marks.SqlMarks.read.Goals as goal

-- the marks are left, whatever it answers
pub invariant_of-self : goal.invariant_of-self
invariant_of-self g c =
    let s = c.self.inside in
    knows_left g.D.Lasting.supposed (state g.D.Store s.connection) (state g.D.Store c.load_marks.new.connection) c.load_marks.ensures.clean c.load_marks.ensures.was_open s.tells
    (λ clean is_open. kept_read (state g.D.Store c.self.inside.connection) (state g.D.Store c.load_marks.new.connection) c.load_marks.result (λ loaded. loaded.items) (c.load_marks.ensures.loads clean) (c.load_marks.ensures.refused clean is_open)) c.self.invariant

pub returns-clause-unchanged : goal.returns-clause-unchanged
returns-clause-unchanged g c =
    let new : Keeping g.row.D.Denot = record { connection = c.load_marks.new.connection; doubt = c.self.inside.doubt; plan = c.self.inside.plan.items; calls = c.self.inside.calls; faults = c.self.inside.faults; tells = c.self.inside.tells } in
    subst (λ k. MarksStay (TellsMarks g.D.Store g.D.Lasting.supposed k) (TellsMarks g.D.Store g.D.Lasting.supposed new)) c.self.view_is
    (still_told g.D.Store g.D.Lasting.supposed (record { connection = c.self.inside.connection; doubt = c.self.inside.doubt; plan = c.self.inside.plan.items; calls = c.self.inside.calls; faults = c.self.inside.faults; tells = c.self.inside.tells }) new refl c.self.invariant c.load_marks.ensures.clean c.load_marks.ensures.was_open
    (λ clean is_open. kept_read (state g.D.Store c.self.inside.connection) (state g.D.Store c.load_marks.new.connection) c.load_marks.result (λ loaded. loaded.items) (c.load_marks.ensures.loads clean) (c.load_marks.ensures.refused clean is_open)))

pub returns-clause-answer : goal.returns-clause-answer
returns-clause-answer g c =
    let new : Keeping g.row.D.Denot = record { connection = c.load_marks.new.connection; doubt = c.self.inside.doubt; plan = c.self.inside.plan.items; calls = c.self.inside.calls; faults = c.self.inside.faults; tells = c.self.inside.tells } in
    if_ok c.load_marks.result _ (λ loaded is. given g.D.Store g.D.Lasting.supposed (record { connection = c.self.inside.connection; doubt = c.self.inside.doubt; plan = c.self.inside.plan.items; calls = c.self.inside.calls; faults = c.self.inside.faults; tells = c.self.inside.tells }) new refl c.self.invariant c.load_marks.ensures.clean c.load_marks.ensures.was_open loaded.items
    (λ clean. rw is at (c.load_marks.ensures.loads clean)))
