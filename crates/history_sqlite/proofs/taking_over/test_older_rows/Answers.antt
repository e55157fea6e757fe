use Rattle.std.proofs.Common.{◌≡◌, Option, true, not, take, ap, sym, subst, ◌∙◌, arith}
use Rattle.std.specs.Prelude.{IsSome, is_some}
use Rattle.std.proofs.lemmas.List.{take_all}
use Rattle.std.proofs.lemmas.List.Elements.{All-more, All-same}
use Rattle.history_keeper.specs.declared.row.Row.{Row}
use Rattle.history_sqlite.specs.Columns.{older_row_read}
use Rattle.history_sqlite.proofs.taking_over.test_older_rows.Goals as goal

pub loop-columns-preserved : goal.loop-columns-preserved
loop-columns-preserved c =
    let columns = c.columns-item.result in
    let is_row : is_some c.read_older_row.result ≡ true = c.is_none.ensures ∙ ap not c.if-is_none.false in
    let stands : IsSome (older_row_read columns) = subst (λ (row : Option Row). IsSome row) c.read_older_row.ensures.read is_row in
    All-more (λ columns. IsSome (older_row_read columns)) c.args.table.now c.loop-columns.columns-index columns (omega arith) c.loop-columns.invariant
    (subst (λ columns. IsSome (older_row_read columns)) c.columns-item.is stands)

pub returns-clause-stand : goal.returns-clause-stand
returns-clause-stand c =
    let table = c.args.table.now in
    let index = c.loop-columns.columns-index in
    All-same (λ columns. IsSome (older_row_read columns)) table (take index table) (sym (take_all index table (omega arith))) c.loop-columns.invariant
