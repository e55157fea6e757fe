use Rattle.client_scripts.proofs.Newest.{waiting_more}
use Rattle.client_scripts.proofs.devices.waiting.Goals as goal

pub loop-row-preserved : goal.loop-row-preserved
loop-row-preserved c = λ q. waiting_more c.args.rows.now c.loop-row.row-index c.row-item.result q _ _ c.loop-row-test.true c.row-item.is (c.loop-row.invariant q) (c.in_ok-note.ensures q)
