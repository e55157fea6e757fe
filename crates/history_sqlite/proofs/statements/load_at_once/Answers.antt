use Rattle.std.proofs.Common.{ap, ◌∙◌, map, Err}
use Rattle.std.proofs.lemmas.Result.{IfOk-weaker, err_from_is_err_and}
use Rattle.sqlite.specs.Held.{state}
use Rattle.history_sqlite.specs.Causes.{select_text}
use Rattle.history_sqlite.specs.Columns.{row_read}
use Rattle.history_sqlite.proofs.Effects.{unanswered_fails, unread_fails}
use Rattle.history_sqlite.proofs.Opening.{if_err}
use Rattle.history_sqlite.proofs.ReadBack.{all_back}
use Rattle.history_sqlite.proofs.statements.load_at_once.Goals as goal

pub returns-clause-loads : goal.returns-clause-loads
returns-clause-loads g c clean =
    IfOk-weaker c.read_rows.result _ _ (λ loaded read rows h.
    let given = c.in_ok-table.ensures.gives clean rows h in (all_back rows loaded.items (read ∙ ap (map row_read) (c.deref.ensures.value ∙ given.0)), given.1))
    c.read_rows.ensures.read

pub returns-clause-cause : goal.returns-clause-cause
returns-clause-cause g c clean =
    if_err c.read_rows.result _ (λ why is. unread_fails why select_text row_read (state g.D.Store c.args.connection.now) (state g.D.Store c.select.new.connection) c.in_ok-table.table.items (c.in_ok-table.ensures.shown clean)
    (λ fault. rw c.deref.ensures.value at (c.read_rows.ensures.cause (is ∙ ap Err fault))))

pub returns-in_err-table-clause-cause : goal.returns-in_err-table-clause-cause
returns-in_err-table-clause-cause g c clean =
    let p = err_from_is_err_and c.from_residual.result c.from_residual.ensures.1 in
    rw (p.1, p.2) (unanswered_fails c.in_err-table.field-0.0 select_text row_read (state g.D.Store c.args.connection.now) (state g.D.Store c.select.new.connection) (c.in_err-table.ensures.cause clean))

pub returns-clause-read : goal.returns-clause-read
returns-clause-read g c clean =
    IfOk-weaker c.read_rows.result _ _ (λ loaded read. (c.in_ok-table.table.items, c.in_ok-table.ensures.shown clean, read ∙ ap (map row_read) c.deref.ensures.value)) c.read_rows.ensures.read
