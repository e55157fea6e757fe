use Rattle.std.proofs.Common.{Err, Ok, sym}
use Rattle.sqlite.specs.Held.{state}
use Rattle.history_sqlite.proofs.Effects.{executed_open, refused_stays}
use Rattle.marks_sqlite.proofs.Marks.{adds, stays}
use Rattle.marks_sqlite.proofs.statements.insert.Goals as goal

pub returns-in-Ok-clause-adds : goal.returns-in-Ok-clause-adds
returns-in-Ok-clause-adds g c clean marks h =
    adds (state g.D.Store c.args.connection.now) (state g.D.Store c.execute.new.self) marks c.args.entry c.in-Ok.field-0 h c.execute.ensures.survives.limit
    (rw c.values_of_entry-values.ensures at (c.in-Ok.ensures.runs clean))

pub returns-in-Err-clause-refused : goal.returns-in-Err-clause-refused
returns-in-Err-clause-refused g c clean is_open marks h =
    let old = state g.D.Store c.args.connection.now in
    let new = state g.D.Store c.execute.new.self in stays old new marks h c.execute.ensures.survives.limit is_open (refused_stays _ _ old new c.in-Err.error (c.in-Err.ensures.runs clean))

pub returns-in-Err-clause-cause : goal.returns-in-Err-clause-cause
returns-in-Err-clause-cause g c clean = (c.in-Err.error, sym c.refusal_of_error.ensures, rw c.values_of_entry-values.ensures at (c.in-Err.ensures.runs clean))

pub returns-in-Ok-clause-was_open : goal.returns-in-Ok-clause-was_open
returns-in-Ok-clause-was_open g c clean is_open = executed_open _ _ (state g.D.Store c.args.connection.now) (state g.D.Store c.execute.new.self) (Ok c.in-Ok.field-0) (c.in-Ok.ensures.runs clean) is_open

pub returns-in-Err-clause-was_open : goal.returns-in-Err-clause-was_open
returns-in-Err-clause-was_open g c clean is_open = executed_open _ _ (state g.D.Store c.args.connection.now) (state g.D.Store c.execute.new.self) (Err c.in-Err.error) (c.in-Err.ensures.runs clean) is_open
