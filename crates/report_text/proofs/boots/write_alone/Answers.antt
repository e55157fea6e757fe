use Rattle.std.proofs.Common.{[]}
use Rattle.std.proofs.lemmas.Result.{err_from_is_err_and}
use Rattle.report_text.specs.Report.{in_turn, lines_alone}
use Rattle.report_text.proofs.Events.{event_written, event_stopped}
use Rattle.report_text.proofs.boots.write_alone.Goals as goal

pub returns-in_err-write_event-clause-front : goal.returns-in_err-write_event-clause-front
returns-in_err-write_event-clause-front g c =
    let p = err_from_is_err_and c.from_residual.result c.from_residual.ensures.1 in
    rw p.1 (event_stopped (in_turn (lines_alone c.args.sheets.now) [] c.args.log.now) (lines_alone c.args.sheets.now) c.args.log.now c.loop-event.event-index c.event-item.result _ _ _ c.loop-event-test.true c.event-item.is c.loop-event.invariant.so_far c.in_err-write_event.ensures.front)

pub loop-event-preserved : goal.loop-event-preserved
loop-event-preserved g c = record {
  so_far = event_written (in_turn (lines_alone c.args.sheets.now) [] c.args.log.now) (lines_alone c.args.sheets.now) c.args.log.now c.loop-event.event-index c.event-item.result _ _ _ c.loop-event-test.true c.event-item.is c.loop-event.invariant.so_far c.in_ok-write_event.ensures.whole;
  quiet = rw c.in_ok-write_event.ensures.quiet c.loop-event.invariant.quiet;
}
