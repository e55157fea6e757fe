use Rattle.std.proofs.Common.{[], sym, arith}
use Rattle.std.proofs.lemmas.Result.{IfOk-weaker, MatchResult-weaker, on_err_weaker}
use Rattle.sqlite.specs.Held.{state}
use Rattle.sqlite.specs.State.{HasCleanDisk}
use Rattle.history_sqlite.specs.Causes.{select_text}
use Rattle.history_sqlite.specs.Columns.{row_read}
use Rattle.history_sqlite.proofs.Effects.{shown_open, unanswered_fails, unanswered_open}
use Rattle.history_sqlite.proofs.InTurn.{keeps_over, load_over, loads_over, loads_read, read_over}
use Rattle.history_sqlite.proofs.Selecting.{gives_nothing}
use Rattle.history_sqlite.proofs.statements.load_rows.Goals as goal

pub returns-in-Ok-Some-clause-loads : goal.returns-in-Ok-Some-clause-loads
returns-in-Ok-Some-clause-loads g c clean =
    loads_read (state g.D.Store c.args.connection.now) (state g.D.Store c.read_in_turn.new.connection) c.in-Ok-Some.rows.items c.read_in_turn.ensures.survives.limit (rw c.in-Ok-Some.field-0-is at (c.in-Ok-Some.ensures.read clean))

pub returns-in-Ok-Some-clause-read : goal.returns-in-Ok-Some-clause-read
returns-in-Ok-Some-clause-read g c clean = rw c.in-Ok-Some.field-0-is at (c.in-Ok-Some.ensures.read clean)

pub returns-in-Ok-Some-clause-was_open : goal.returns-in-Ok-Some-clause-was_open
returns-in-Ok-Some-clause-was_open g c clean is_open =
    let read = rw c.in-Ok-Some.field-0-is at (c.in-Ok-Some.ensures.read clean) in
    shown_open select_text [] (state g.D.Store c.args.connection.now) (state g.D.Store c.read_in_turn.new.connection) read.0 read.1

pub returns-in-Ok-None-clause-loads : goal.returns-in-Ok-None-clause-loads
returns-in-Ok-None-clause-loads g c clean =
    let mid = state g.D.Store c.read_in_turn.new.connection in
    let before : HasCleanDisk mid = c.load_at_once.ensures.clean clean in
    IfOk-weaker c.load_at_once.result _ _ (λ loaded. loads_over (state g.D.Store c.args.connection.now) mid (state g.D.Store c.load_at_once.new.connection) loaded.items (c.in-Ok-None.ensures.same before) c.read_in_turn.ensures.survives.limit) (c.load_at_once.ensures.loads clean)

pub returns-in-Ok-None-clause-read : goal.returns-in-Ok-None-clause-read
returns-in-Ok-None-clause-read g c clean =
    let mid = state g.D.Store c.read_in_turn.new.connection in
    let before : HasCleanDisk mid = c.load_at_once.ensures.clean clean in
    IfOk-weaker c.load_at_once.result _ _ (λ loaded. read_over (state g.D.Store c.args.connection.now) mid (state g.D.Store c.load_at_once.new.connection) loaded.items (c.in-Ok-None.ensures.same before)) (c.load_at_once.ensures.read clean)

pub returns-in-Ok-None-clause-refused : goal.returns-in-Ok-None-clause-refused
returns-in-Ok-None-clause-refused g c clean is_open =
    let mid = state g.D.Store c.read_in_turn.new.connection in
    let before : HasCleanDisk mid = c.load_at_once.ensures.clean clean in
    on_err_weaker c.load_at_once.result (keeps_over (state g.D.Store c.args.connection.now) mid (state g.D.Store c.load_at_once.new.connection) (c.in-Ok-None.ensures.same before) c.read_in_turn.ensures.survives.limit) (c.load_at_once.ensures.refused clean is_open)

pub returns-in-Ok-None-clause-cause : goal.returns-in-Ok-None-clause-cause
returns-in-Ok-None-clause-cause g c clean =
    let mid = state g.D.Store c.read_in_turn.new.connection in
    let before : HasCleanDisk mid = c.load_at_once.ensures.clean clean in
    MatchResult-weaker c.load_at_once.result (c.load_at_once.ensures.cause clean) (λ loaded none. none)
    (λ why. load_over why (state g.D.Store c.args.connection.now) mid (state g.D.Store c.load_at_once.new.connection) (c.in-Ok-None.ensures.same before) c.read_in_turn.ensures.survives.counts c.read_in_turn.ensures.survives.limit)

pub returns-in-Ok-None-clause-clean : goal.returns-in-Ok-None-clause-clean
returns-in-Ok-None-clause-clean g c clean = let before = c.load_at_once.ensures.clean clean in omega (arith, before, c.read_in_turn.ensures.survives.clean)

pub returns-in-Ok-None-clause-was_open : goal.returns-in-Ok-None-clause-was_open
returns-in-Ok-None-clause-was_open g c clean is_open = (c.in-Ok-None.ensures.same (c.load_at_once.ensures.clean clean)).0.was_open

pub returns-in-Err-clause-refused : goal.returns-in-Err-clause-refused
returns-in-Err-clause-refused g c clean is_open rows h =
    gives_nothing (state g.D.Store c.args.connection.now) (state g.D.Store c.read_in_turn.new.connection) rows c.in-Err.error h c.read_in_turn.ensures.survives.limit is_open (c.in-Err.ensures.failed clean)

pub returns-in-Err-clause-cause : goal.returns-in-Err-clause-cause
returns-in-Err-clause-cause g c clean =
    unanswered_fails c.refusal_of_error.result select_text row_read (state g.D.Store c.args.connection.now) (state g.D.Store c.read_in_turn.new.connection) (c.in-Err.error, sym c.refusal_of_error.ensures, c.in-Err.ensures.failed clean)

pub returns-in-Err-clause-was_open : goal.returns-in-Err-clause-was_open
returns-in-Err-clause-was_open g c clean is_open = unanswered_open select_text [] (state g.D.Store c.args.connection.now) (state g.D.Store c.read_in_turn.new.connection) c.in-Err.error (c.in-Err.ensures.failed clean) is_open
