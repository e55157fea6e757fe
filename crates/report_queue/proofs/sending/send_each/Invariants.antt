use Rattle.std.proofs.Common.{◌≡◌, ◌≤◌, None, take}
use Rattle.report_queue.specs.Marking.{OverTold}
use Rattle.report_queue.specs.Stops.{HasSent}
use Rattle.report_queue.proofs.Marked.{now_of}
use Rattle.report_queue.proofs.sending.send_each.Given as goal

abbrev pub invariant-loop-row : goal.invariant-loop-row
invariant-loop-row g l = record {
  sent : OverTold (g.M.MarkKeeper.tells l.fn.marks) (g.M.MarkKeeper.tells l.marks) (λ before after. HasSent (now_of (take l.row-index l.rows))
      (record { marks = before; doubt = g.M.MarkKeeper.doubt l.fn.marks; taken = g.T.Sink.taken l.fn.out })
      (record { marks = after; doubt = g.M.MarkKeeper.doubt l.marks; taken = g.T.Sink.taken l.out }));
  no_doubt : g.M.MarkKeeper.doubt l.marks ≡ None;
  counts_marks : g.M.MarkKeeper.faults l.fn.marks ≤ g.M.MarkKeeper.faults l.marks;
  counts_out : g.T.Sink.faults l.fn.out ≤ g.T.Sink.faults l.out;
  quiet : g.T.Sink.faults l.out ≡ g.T.Sink.faults l.fn.out;
  marks_quiet : g.M.MarkKeeper.faults l.marks ≡ g.M.MarkKeeper.faults l.fn.marks;
}
