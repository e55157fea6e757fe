use Rattle.report_view.specs.Spans.{span}
use Rattle.report_view.proofs.PutPieces.{PutUpTo}
use Rattle.report_view.proofs.spans.put_spans.Given as goal

abbrev pub invariant-loop-row : goal.invariant-loop-row
invariant-loop-row l = PutUpTo (span l.total) l.rows l.row-index l.fn.out.items l.out.items
