use Rattle.report_view.specs.Spans.{client_label}
use Rattle.report_view.proofs.PutPieces.{put_at}
use Rattle.report_view.proofs.spans.put_client_labels.Goals as goal

pub loop-client-preserved : goal.loop-client-preserved
loop-client-preserved c =
    put_at client_label c.args.clients.now c.loop-client.client-index _ c.args.out.now.items c.loop-client.out.items c.put_client_label.new.out.items
    c.loop-client-test.true c.loop-client.invariant c.in_ok-put_client_label.ensures
