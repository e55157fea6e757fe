use Rattle.std.proofs.Common.{sym}
use Rattle.sqlite.specs.Held.{state}
use Rattle.history_sqlite.proofs.Opening.{number_keeps, numberless_keeps}
use Rattle.history_sqlite.proofs.finding.read_number.Goals as goal

pub returns-in-Ok-clause-keeps : goal.returns-in-Ok-clause-keeps
returns-in-Ok-clause-keeps g c clean is_open =
    number_keeps (state g.D.Store c.args.connection.now) (state g.D.Store c.query_all.new.self) c.in-Ok.rows.items c.query_all.ensures.survives.limit (c.in-Ok.ensures.ok clean)

pub returns-in-Err-clause-keeps : goal.returns-in-Err-clause-keeps
returns-in-Err-clause-keeps g c clean is_open =
    numberless_keeps (state g.D.Store c.args.connection.now) (state g.D.Store c.query_all.new.self) c.in-Err.error c.query_all.ensures.survives.limit is_open (c.in-Err.ensures.err clean)

pub returns-in-Err-clause-cause : goal.returns-in-Err-clause-cause
returns-in-Err-clause-cause g c clean = (c.in-Err.error, sym c.refusal_of_error.ensures, c.in-Err.ensures.err clean)
