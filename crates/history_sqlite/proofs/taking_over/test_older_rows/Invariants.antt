use Rattle.std.proofs.Common.{take, All}
use Rattle.std.specs.Prelude.{IsSome}
use Rattle.history_sqlite.specs.Columns.{older_row_read}
use Rattle.history_sqlite.proofs.taking_over.test_older_rows.Given as goal

abbrev pub invariant-loop-columns : goal.invariant-loop-columns
invariant-loop-columns l = All (λ columns. IsSome (older_row_read columns)) (take l.columns-index l.table)
