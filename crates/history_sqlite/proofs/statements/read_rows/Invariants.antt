use Rattle.std.proofs.Common.{◌≡◌, map, take, Some}
use Rattle.history_sqlite.specs.Columns.{row_read}
use Rattle.history_sqlite.proofs.statements.read_rows.Given as goal

abbrev pub invariant-loop-columns : goal.invariant-loop-columns
invariant-loop-columns l = map Some l.rows.items ≡ map row_read (take l.columns-index l.table)
