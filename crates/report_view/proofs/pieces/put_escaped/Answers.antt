use Rattle.report_view.specs.Pieces.{escape, escaped_byte}
use Rattle.report_view.proofs.PutPieces.{put_all}
use Rattle.report_view.proofs.pieces.put_escaped.Goals as goal

pub returns : goal.returns
unfolding escape
returns c = put_all escaped_byte c.args.text.now c.loop-byte.byte-index c.args.out.now.items c.loop-byte.out.items c.loop-byte-test.false c.loop-byte.invariant
