use Rattle.report_view.specs.Pieces.{escaped_byte}
use Rattle.report_view.proofs.PutPieces.{PutUpTo}
use Rattle.report_view.proofs.pieces.put_escaped.Given as goal

abbrev pub invariant-loop-byte : goal.invariant-loop-byte
invariant-loop-byte l = PutUpTo escaped_byte l.text l.byte-index l.fn.out.items l.out.items
