use Rattle.report_queue.proofs.Texts.{escaped_more}
use Rattle.report_queue.proofs.json_text.put_escaped.Goals as goal

pub loop-byte-preserved : goal.loop-byte-preserved
loop-byte-preserved c = escaped_more c.args.bytes.now c.loop-byte.byte-index _ _ _ c.loop-byte-test.true c.loop-byte.invariant c.in_ok-put_escaped_byte.ensures
