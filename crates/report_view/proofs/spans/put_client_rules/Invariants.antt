use Rattle.report_view.specs.Spans.{client_rule}
use Rattle.report_view.proofs.PutPieces.{PutUpTo}
use Rattle.report_view.proofs.spans.put_client_rules.Given as goal

abbrev pub invariant-loop-client : goal.invariant-loop-client
invariant-loop-client l = PutUpTo (client_rule l.clients) l.clients l.client-index l.fn.out.items l.out.items
