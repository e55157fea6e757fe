use Rattle.std.proofs.Common.{[], IfErr, rules, arith}
use Rattle.std.proofs.lemmas.Result.{err_from_is_err_and}
use Rattle.sqlite.specs.Held.{state}
use Rattle.sqlite.specs.State.{CommitsShowing, FailsToQuery, HasCleanDisk, Survives}
use Rattle.history_sqlite.specs.Causes.{select_text}
use Rattle.history_sqlite.proofs.InTurn.{begun, commits_nothing, survives_on, whole_failed, whole_read, whole_same}
use Rattle.history_sqlite.proofs.in_turn.read_in_turn.Goals as goal

pub returns-in_err-shown-clause-failed : goal.returns-in_err-shown-clause-failed
returns-in_err-shown-clause-failed g c clean =
    let old = state g.D.Store c.args.connection.now in
    let new = state g.D.Store c.query.follows.lender-at-none in
    let held = c.query.follows.holds-at-none in
    let late : HasCleanDisk new = search rules in
    let refused : (HasCleanDisk new → IfErr c.query.result (FailsToQuery select_text [] old new)) = search rules in
    let failed = refused late in
    let p = err_from_is_err_and c.from_residual.result c.from_residual.ensures.1 in
    rw (p.1, p.2) (search rules)

pub returns-in_err-shown-clause-survives : goal.returns-in_err-shown-clause-survives
returns-in_err-shown-clause-survives g c =
    let old = state g.D.Store c.args.connection.now in
    let new = state g.D.Store c.query.follows.lender-at-none in
    let held = c.query.follows.holds-at-none in
    let kept : Survives old new (CommitsShowing select_text [] old) = search rules in
    commits_nothing old new kept

pub returns-clause-read : goal.returns-clause-read
returns-clause-read g c clean =
    let start = c.in_ok-shown.shown.conn.now in
    let last = c.read_on.new.shown.conn.now in
    let late : HasCleanDisk (state g.D.Store last) = search rules in
    let early : HasCleanDisk (state g.D.Store start) = omega (arith, late, c.read_on.ensures.survives.clean) in
    let began = begun g.D.Store c.args.connection.now start (c.in_ok-shown.ensures.begun early) in
    let whole = whole_read g.D.Store (λ read. read.items) c.args.connection.now start last c.read_on.result began.1 began.0 (c.read_on.ensures.read late) in
    search rules

pub returns-clause-same : goal.returns-clause-same
returns-clause-same g c clean =
    let start = c.in_ok-shown.shown.conn.now in
    let last = c.read_on.new.shown.conn.now in
    let late : HasCleanDisk (state g.D.Store last) = search rules in
    let early : HasCleanDisk (state g.D.Store start) = omega (arith, late, c.read_on.ensures.survives.clean) in
    let began = begun g.D.Store c.args.connection.now start (c.in_ok-shown.ensures.begun early) in
    let whole = whole_same g.D.Store c.args.connection.now start last c.read_on.result began.1 began.0 (c.read_on.ensures.same late) in
    search rules

pub returns-clause-failed : goal.returns-clause-failed
returns-clause-failed g c clean =
    let start = c.in_ok-shown.shown.conn.now in
    let last = c.read_on.new.shown.conn.now in
    let late : HasCleanDisk (state g.D.Store last) = search rules in
    let early : HasCleanDisk (state g.D.Store start) = omega (arith, late, c.read_on.ensures.survives.clean) in
    let began = begun g.D.Store c.args.connection.now start (c.in_ok-shown.ensures.begun early) in
    let survives = commits_nothing (state g.D.Store c.args.connection.now) (state g.D.Store start) c.in_ok-shown.ensures.survives in
    let whole = whole_failed g.D.Store c.args.connection.now start last c.read_on.result began.1 began.0 survives (c.read_on.ensures.failed late) in
    search rules

pub returns-clause-survives : goal.returns-clause-survives
returns-clause-survives g c =
    let start = c.in_ok-shown.shown.conn.now in
    let last = c.read_on.new.shown.conn.now in
    let survives = commits_nothing (state g.D.Store c.args.connection.now) (state g.D.Store start) c.in_ok-shown.ensures.survives in
    let whole = survives_on (state g.D.Store c.args.connection.now) (state g.D.Store start) (state g.D.Store last) survives c.read_on.ensures.survives in
    search rules
