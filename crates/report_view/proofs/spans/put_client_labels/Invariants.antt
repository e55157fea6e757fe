use Rattle.report_view.specs.Spans.{client_label}
use Rattle.report_view.proofs.PutPieces.{PutUpTo}
use Rattle.report_view.proofs.spans.put_client_labels.Given as goal

abbrev pub invariant-loop-client : goal.invariant-loop-client
invariant-loop-client l = PutUpTo client_label l.clients l.client-index l.fn.out.items l.out.items
