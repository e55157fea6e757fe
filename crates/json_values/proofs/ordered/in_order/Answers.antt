use Rattle.std.proofs.Common.{refl}
use Rattle.json_values.proofs.Passing.{put_next}
use Rattle.json_values.proofs.ordered.in_order.Goals as goal

pub loop-entry-preserved : goal.loop-entry-preserved
loop-entry-preserved c =
    put_next c.args.list.now c.loop-entry.entry-index c.entry-item.result _ _ c.loop-entry.found.entries c.insert.new.self.entries _
    c.loop-entry-test.true c.entry-item.is refl refl c.in_ok-insert.ensures.entries c.loop-entry.invariant
