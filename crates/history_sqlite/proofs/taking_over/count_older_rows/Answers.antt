use Rattle.std.proofs.Common.{ap, sym, ◌∙◌}
use Rattle.std.specs.Prelude.{length}
use Rattle.std.proofs.lemmas.List.{length-map}
use Rattle.std.proofs.lemmas.Result.{err_from_is_err_and}
use Rattle.sqlite.specs.Held.{state}
use Rattle.history_sqlite.specs.Causes.{older_select_text}
use Rattle.history_sqlite.specs.Columns.{older_columns_of, older_row_read}
use Rattle.history_sqlite.proofs.Effects.{unanswered_fails, unread_fails}
use Rattle.history_sqlite.proofs.taking_over.count_older_rows.Goals as goal

pub returns-clause-counts : goal.returns-clause-counts
returns-clause-counts g c clean rows h =
    let given = c.in_ok-table.ensures.gives clean rows h in (c.len.ensures ∙ sym c.deref.ensures.len ∙ ap length c.deref.ensures.value ∙ ap length given.0 ∙ length-map rows older_columns_of, given.1)

pub returns-in_err-test_older_rows-clause-cause : goal.returns-in_err-test_older_rows-clause-cause
returns-in_err-test_older_rows-clause-cause g c clean =
    let p = err_from_is_err_and c.from_residual-in_err-test_older_rows.result c.from_residual-in_err-test_older_rows.ensures.1 in
    let old = state g.D.Store c.args.connection.now in
    let new = state g.D.Store c.select_older.new.connection in
    rw (p.1, p.2)
    (unread_fails c.in_err-test_older_rows.field-0.0 older_select_text older_row_read old new c.in_ok-table.table.items (c.in_ok-table.ensures.shown clean)
    (λ fault. rw c.deref.ensures.value at c.in_err-test_older_rows.ensures.cause.1))

pub returns-in_err-table-clause-cause : goal.returns-in_err-table-clause-cause
returns-in_err-table-clause-cause g c clean =
    let p = err_from_is_err_and c.from_residual.result c.from_residual.ensures.1 in
    rw (p.1, p.2) (unanswered_fails c.in_err-table.field-0.0 older_select_text older_row_read (state g.D.Store c.args.connection.now) (state g.D.Store c.select_older.new.connection) (c.in_err-table.ensures.cause clean))

pub returns-clause-stand : goal.returns-clause-stand
returns-clause-stand g c clean = (c.in_ok-table.table.items, c.in_ok-table.ensures.shown clean, rw c.deref.ensures.value at c.in_ok-test_older_rows.ensures.stand)
