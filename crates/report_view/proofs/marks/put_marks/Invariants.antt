use Rattle.std.proofs.Common.{map}
use Rattle.report_view.specs.Marks.{mark}
use Rattle.report_view.proofs.PutPieces.{PutUpTo}
use Rattle.report_view.proofs.marks.put_marks.Given as goal

abbrev pub invariant-loop-event : goal.invariant-loop-event
invariant-loop-event l = PutUpTo (mark (map (λ line. line.now) l.lines)) l.events l.event-index l.fn.out.items l.out.items
