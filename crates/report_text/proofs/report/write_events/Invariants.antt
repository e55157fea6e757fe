use Rattle.std.proofs.Common.{◌≡◌, [], take, drop, reverse}
use Rattle.outer_traits.proofs.Fronts.{StillToWrite}
use Rattle.core_state.specs.Core.{Stands}
use Rattle.update_log.specs.Known.{basis_of}
use Rattle.report_text.specs.Report.{in_turn, lines_in}
use Rattle.report_text.proofs.report.write_events.Given as goal

abbrev pub ghost-follow : goal.ghost-follow
ghost-follow g a = g.opening

abbrev pub invariant-loop-event : goal.invariant-loop-event
invariant-loop-event g l = record {
  so_far : StillToWrite (in_turn (lines_in (basis_of l.facts g.opening)) [] l.log) (in_turn (lines_in (basis_of l.facts g.opening)) (reverse (take l.event-index l.log)) (drop l.event-index l.log)) (g.T.Sink.taken l.fn.out) (g.T.Sink.taken l.out);
  quiet : g.T.Sink.faults l.out ≡ g.T.Sink.faults l.fn.out;
  log : l.state.log ≡ take l.event-index l.log;
  stands : Stands (basis_of l.facts g.opening) l.state;
}
