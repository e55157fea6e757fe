use Rattle.std.proofs.Common.{[], inl, inr, subst, sym}
use Rattle.std.proofs.lemmas.Result.{err_from_is_err_and}
use Rattle.sqlite.specs.Held.{state}
use Rattle.sqlite.specs.State.{HasCleanDisk}
use Rattle.marks_sqlite.specs.Causes.{FailsToOpen}
use Rattle.marks_sqlite.specs.Tables.{HasAny}
use Rattle.marks_sqlite.proofs.Marks.{opened_after, unlimited}
use Rattle.marks_sqlite.proofs.MarksTold.{knows_opened}
use Rattle.marks_sqlite.proofs.sql_marks.SqlMarks.adopt_so.Goals as goal

pub returns-clause-opens : goal.returns-clause-opens
returns-clause-opens g c clean =
    let first = c.args.connection in
    let set = c.set_step_limit.new.self in
    let made = c.open_table.new.connection in
    let opens = opened_after (state g.D.Store first) (state g.D.Store set) (state g.D.Store made) (unlimited g.D.Store first set c.set_step_limit.ensures) (c.in_ok-open_table.ensures.opens (c.load_marks.ensures.clean clean)) in
    let loads = c.in_ok-_marks.ensures.loads clean in (λ marks holds. (loads marks (opens.0 marks holds)).1, λ blank. (loads [] (opens.1 blank)).1)

pub returns-in_err-open_table-clause-cause : goal.returns-in_err-open_table-clause-cause
returns-in_err-open_table-clause-cause g c =
    let p = err_from_is_err_and c.from_residual.result c.from_residual.ensures.1 in
    rw (p.1, p.2) (c.open_table.new.connection, λ clean. inl (subst (λ h. FailsToOpen g.D.Store c.in_err-open_table.field-0.0 h c.open_table.new.connection) c.set_step_limit.ensures (c.in_err-open_table.ensures.cause clean)))

pub returns-in_err-_marks-clause-cause : goal.returns-in_err-_marks-clause-cause
returns-in_err-_marks-clause-cause g c =
    let p = err_from_is_err_and c.from_residual-in_err-_marks.result c.from_residual-in_err-_marks.ensures.1 in
    rw (p.1, p.2) (c.load_marks.new.connection, λ clean. inr (c.open_table.new.connection, c.in_err-_marks.ensures.cause clean))

-- a keeper that may tell has a table, where what is supposed is so
pub invariant_of-result : goal.invariant_of-result
invariant_of-result g c =
    knows_opened g.D.Lasting.supposed c.args.tells (state g.D.Store c.set_step_limit.new.self) (state g.D.Store c.open_table.new.connection) (state g.D.Store c.load_marks.new.connection) c.in_ok-_marks._marks.items c.load_marks.ensures.clean
    (λ clean. c.in_ok-open_table.ensures.opens clean) c.in_ok-_marks.ensures.loads
    (λ may so clean. subst (λ h. HasAny (state g.D.Store h)) (sym c.set_step_limit.ensures) (c.requires may so (subst (λ h. HasCleanDisk (state g.D.Store h)) c.set_step_limit.ensures clean)))
    c.open_table.ensures.clean

pub returns-clause-clean : goal.returns-clause-clean
returns-clause-clean g c clean = subst (λ h. HasCleanDisk (state g.D.Store h)) c.set_step_limit.ensures (c.open_table.ensures.clean (c.load_marks.ensures.clean clean))
