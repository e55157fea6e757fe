use Rattle.std.proofs.Common.{map}
use Rattle.report_view.specs.Tables.{table_row}
use Rattle.report_view.proofs.PutPieces.{PutUpTo}
use Rattle.report_view.proofs.table.put_rows.Given as goal

abbrev pub invariant-loop-row : goal.invariant-loop-row
invariant-loop-row l = PutUpTo (table_row (map (λ line. line.now) l.lines)) l.rows l.row-index l.fn.out.items l.out.items
