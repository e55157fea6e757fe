use Rattle.std.proofs.Common.{◌≡◌, [], take, drop, reverse}
use Rattle.outer_traits.proofs.Fronts.{StillToWrite}
use Rattle.report_text.specs.Report.{in_turn, lines_alone}
use Rattle.report_text.proofs.boots.write_alone.Given as goal

abbrev pub invariant-loop-event : goal.invariant-loop-event
invariant-loop-event g l = record {
  so_far : StillToWrite (in_turn (lines_alone l.sheets) [] l.log) (in_turn (lines_alone l.sheets) (reverse (take l.event-index l.log)) (drop l.event-index l.log)) (g.T.Sink.taken l.fn.out) (g.T.Sink.taken l.out);
  quiet : g.T.Sink.faults l.out ≡ g.T.Sink.faults l.fn.out;
}
