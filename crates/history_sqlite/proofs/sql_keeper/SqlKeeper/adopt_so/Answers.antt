use Rattle.std.proofs.Common.{[], map, inl, inr, subst, sym}
use Rattle.std.proofs.lemmas.Result.{err_from_is_err_and}
use Rattle.history_sqlite.specs.Causes.{FailsToOpen}
use Rattle.history_sqlite.specs.Columns.{taken_over}
use Rattle.history_sqlite.specs.Finding.{IsAdopted}
use Rattle.sqlite.specs.Held.{state}
use Rattle.sqlite.specs.State.{HasCleanDisk}
use Rattle.history_sqlite.specs.Tables.{HasAny}
use Rattle.history_sqlite.proofs.AtHand.{still_read}
use Rattle.history_sqlite.proofs.Opening.{opened_after, unlimited}
use Rattle.history_sqlite.proofs.TellingLemmas.{knows_opened}
use Rattle.history_sqlite.proofs.sql_keeper.SqlKeeper.adopt_so.Goals as goal

pub returns-clause-opens : goal.returns-clause-opens
returns-clause-opens g c = rw c.with_rows.ensures (λ clean.
    let first = c.args.connection in
    let set = c.set_step_limit.new.self in
    let made = c.open_tables.new.connection in
    let opens = opened_after (state g.D.Store first) (state g.D.Store set) (state g.D.Store made) (unlimited g.D.Store first set c.set_step_limit.ensures) (c.in_ok-open_tables.ensures.opens (c.load_rows.ensures.clean clean)) in
    let loads = c.in_ok-rows.ensures.loads clean in (λ rows holds. (loads rows (opens.0 rows holds)).1, (λ rows holds. (loads (map taken_over rows) (opens.1.0 rows holds)).1, λ blank. (loads [] (opens.1.1 blank)).1)))

pub returns-clause-adopted : goal.returns-clause-adopted
returns-clause-adopted g c = rw c.with_rows.ensures (λ clean. subst (IsAdopted g.D.Store) c.set_step_limit.ensures (c.in_ok-open_tables.ensures.adopted (c.load_rows.ensures.clean clean)))

pub returns-in_err-open_tables-clause-cause : goal.returns-in_err-open_tables-clause-cause
returns-in_err-open_tables-clause-cause g c =
    let p = err_from_is_err_and c.from_residual.result c.from_residual.ensures.1 in
    rw (p.1, p.2) (c.open_tables.new.connection, λ clean. inl (subst (λ h. FailsToOpen g.D.Store c.in_err-open_tables.field-0.0 h c.open_tables.new.connection) c.set_step_limit.ensures (c.in_err-open_tables.ensures.cause clean)))

pub returns-in_err-rows-clause-cause : goal.returns-in_err-rows-clause-cause
returns-in_err-rows-clause-cause g c =
    let p = err_from_is_err_and c.from_residual-in_err-rows.result c.from_residual-in_err-rows.ensures.1 in
    rw (p.1, p.2) (c.load_rows.new.connection, λ clean. inr (c.open_tables.new.connection, c.in_err-rows.ensures.cause clean))

-- a keeper that may tell has a table, where what is supposed is so
pub invariant_of-result : goal.invariant_of-result
invariant_of-result g c = rw c.with_rows.ensures (
  tt,
  knows_opened g.D.Lasting.supposed c.args.tells (state g.D.Store c.set_step_limit.new.self) (state g.D.Store c.open_tables.new.connection) (state g.D.Store c.load_rows.new.connection) c.in_ok-rows.rows.items c.load_rows.ensures.clean
      (λ clean. c.in_ok-open_tables.ensures.opens clean) c.in_ok-rows.ensures.loads
      (λ may so clean. subst (λ h. HasAny (state g.D.Store h)) (sym c.set_step_limit.ensures) (c.requires may so (subst (λ h. HasCleanDisk (state g.D.Store h)) c.set_step_limit.ensures clean)))
      c.open_tables.ensures.clean,
)

pub returns-clause-clean : goal.returns-clause-clean
returns-clause-clean g c = rw c.with_rows.ensures (λ clean. subst (λ h. HasCleanDisk (state g.D.Store h)) c.set_step_limit.ensures (c.open_tables.ensures.clean (c.load_rows.ensures.clean clean)))

-- the rows that were read are those of the database as it is
pub with_rows-requires : goal.with_rows-requires
with_rows-requires g c clean = still_read (state g.D.Store c.open_tables.new.connection) (state g.D.Store c.load_rows.new.connection) c.in_ok-rows.rows.items (c.in_ok-rows.ensures.read clean)
