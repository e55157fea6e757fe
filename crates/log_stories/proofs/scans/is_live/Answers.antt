use Rattle.std.proofs.Common.{arith}
use Rattle.log_stories.proofs.LogScans.{live-more}
use Rattle.log_stories.proofs.scans.is_live.Goals as goal

pub loop-event-preserved : goal.loop-event-preserved
loop-event-preserved c =
    live-more c.args.log.now c.loop-event.event-index c.args.entry c.event-item.result c.loop-event.live c.live_after-live.result (omega arith) c.event-item.is c.loop-event.invariant c.live_after-live.ensures
