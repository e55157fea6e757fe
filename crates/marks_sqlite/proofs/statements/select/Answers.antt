use Rattle.std.proofs.Common.{sym}
use Rattle.sqlite.specs.Held.{state}
use Rattle.history_sqlite.proofs.Effects.{shown_open, unanswered_open}
use Rattle.marks_sqlite.proofs.Marks.{gives, gives_nothing}
use Rattle.marks_sqlite.proofs.statements.select.Goals as goal

pub returns-in-Ok-clause-gives : goal.returns-in-Ok-clause-gives
returns-in-Ok-clause-gives g c clean marks h =
    gives (state g.D.Store c.args.connection.now) (state g.D.Store c.query_all.new.self) marks c.in-Ok.rows.items h c.query_all.ensures.survives.limit (c.in-Ok.ensures.ok clean)

pub returns-in-Err-clause-refused : goal.returns-in-Err-clause-refused
returns-in-Err-clause-refused g c clean is_open marks h =
    gives_nothing (state g.D.Store c.args.connection.now) (state g.D.Store c.query_all.new.self) marks c.in-Err.error h c.query_all.ensures.survives.limit is_open (c.in-Err.ensures.err clean)

pub returns-in-Err-clause-cause : goal.returns-in-Err-clause-cause
returns-in-Err-clause-cause g c clean = (c.in-Err.error, sym c.refusal_of_error.ensures, c.in-Err.ensures.err clean)

pub returns-in-Ok-clause-was_open : goal.returns-in-Ok-clause-was_open
returns-in-Ok-clause-was_open g c clean is_open = shown_open _ _ (state g.D.Store c.args.connection.now) (state g.D.Store c.query_all.new.self) c.in-Ok.rows.items (c.in-Ok.ensures.ok clean)

pub returns-in-Err-clause-was_open : goal.returns-in-Err-clause-was_open
returns-in-Err-clause-was_open g c clean is_open = unanswered_open _ _ (state g.D.Store c.args.connection.now) (state g.D.Store c.query_all.new.self) c.in-Err.error (c.in-Err.ensures.err clean) is_open
