use Rattle.std.proofs.Common.{inl, inr, sym, arith}
use Rattle.std.proofs.lemmas.Result.{err_from_is_err_and}
use Rattle.sqlite.specs.Held.{state}
use Rattle.sqlite.specs.State.{HasCleanDisk}
use Rattle.sqlite.proofs.StateLemmas.{survives_then}
use Rattle.history_sqlite.specs.Tables.{TakesAll}
use Rattle.history_sqlite.specs.Taking.{MayWriteOver}
use Rattle.history_sqlite.proofs.TakingOver.{takes, may_take}
use Rattle.history_sqlite.proofs.taking_over.take_over.Goals as goal

pub returns-in-Ok-clause-takes : goal.returns-in-Ok-clause-takes
returns-in-Ok-clause-takes g c clean =
    let old = state g.D.Store c.args.connection.now in
    let mid = state g.D.Store c.count_older_rows.new.connection in
    let new = state g.D.Store c.copy_over.new.connection in
    let before : HasCleanDisk mid = omega (arith, clean, c.copy_over.ensures.whole.clean) in
    takes old mid new c.in_ok-count.count (c.in_ok-count.ensures.counts before) (c.in-Ok.ensures.writes clean)

pub returns-in_err-count-clause-cause : goal.returns-in_err-count-clause-cause
returns-in_err-count-clause-cause g c clean =
    let p = err_from_is_err_and c.from_residual.result c.from_residual.ensures.1 in
    rw (p.1, p.2) (c.count_older_rows.new.connection, inl (c.in_err-count.ensures.cause clean))

pub returns-in-Err-clause-cause : goal.returns-in-Err-clause-cause
returns-in-Err-clause-cause g c clean = (c.count_older_rows.new.connection, inr (c.in-Err.error, sym c.refusal_of_error.ensures, c.in-Err.ensures.cause clean))

pub returns-in-Ok-clause-whole : goal.returns-in-Ok-clause-whole
returns-in-Ok-clause-whole g c =
    let old = state g.D.Store c.args.connection.now in
    let mid = state g.D.Store c.count_older_rows.new.connection in
    let new = state g.D.Store c.copy_over.new.connection in
    survives_then old mid new (TakesAll old) (MayWriteOver mid c.in_ok-count.count) (TakesAll old) (λ clean db may. may)
    (λ clean db may. may_take old mid c.in_ok-count.count db (c.in_ok-count.ensures.counts (omega (arith, clean, c.copy_over.ensures.whole.clean))) may)
    c.count_older_rows.ensures.survives c.copy_over.ensures.whole

pub returns-in-Err-clause-whole : goal.returns-in-Err-clause-whole
returns-in-Err-clause-whole g c =
    let old = state g.D.Store c.args.connection.now in
    let mid = state g.D.Store c.count_older_rows.new.connection in
    let new = state g.D.Store c.copy_over.new.connection in
    survives_then old mid new (TakesAll old) (MayWriteOver mid c.in_ok-count.count) (TakesAll old) (λ clean db may. may)
    (λ clean db may. may_take old mid c.in_ok-count.count db (c.in_ok-count.ensures.counts (omega (arith, clean, c.copy_over.ensures.whole.clean))) may)
    c.count_older_rows.ensures.survives c.copy_over.ensures.whole

pub returns-in-Ok-clause-stand : goal.returns-in-Ok-clause-stand
returns-in-Ok-clause-stand g c clean =
    let mid = state g.D.Store c.count_older_rows.new.connection in
    let before : HasCleanDisk mid = omega (arith, clean, c.copy_over.ensures.whole.clean) in
    (c.count_older_rows.new.connection, c.in_ok-count.ensures.stand before)
