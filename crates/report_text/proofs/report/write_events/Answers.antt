use Rattle.std.proofs.Common.{[], refl}
use Rattle.std.proofs.lemmas.Result.{err_from_is_err_and}
use Rattle.outer_traits.proofs.Fronts.{still_front}
use Rattle.report_text.specs.Report.{in_turn, lines_in}
use Rattle.report_text.proofs.Events.{event_written, event_stopped}
use Rattle.report_text.proofs.Followed.{follow-log, lines-took, lines-front, next-legal}
use Rattle.report_text.proofs.report.write_events.Goals as goal
use Rattle.update_log.specs.Known.{basis_of}

pub returns-in_err-write_event-clause-front : goal.returns-in_err-write_event-clause-front
returns-in_err-write_event-clause-front g c =
    let p = err_from_is_err_and c.from_residual.result c.from_residual.ensures.1 in
    rw p.1 (event_stopped (in_turn (lines_in (basis_of c.args.facts.now g.opening)) [] c.args.log.now) (lines_in (basis_of c.args.facts.now g.opening)) c.args.log.now c.loop-event.event-index c.event-item.result _ _ _ c.loop-event-test.true c.event-item.is c.loop-event.invariant.so_far
    (lines-front (basis_of c.args.facts.now g.opening) c.loop-event.state c.args.log.now c.loop-event.event-index c.event-item.result _ _ c.loop-event.invariant.stands c.loop-event.invariant.log c.in_err-write_event.ensures.front))

pub returns-in_err-follow-clause-front : goal.returns-in_err-follow-clause-front
returns-in_err-follow-clause-front g c =
    let p = err_from_is_err_and c.from_residual-in_err-follow.result c.from_residual-in_err-follow.ensures.1 in
    let written = event_written (in_turn (lines_in (basis_of c.args.facts.now g.opening)) [] c.args.log.now) (lines_in (basis_of c.args.facts.now g.opening)) c.args.log.now c.loop-event.event-index c.event-item.result _ _ _ c.loop-event-test.true c.event-item.is c.loop-event.invariant.so_far
    (lines-took (basis_of c.args.facts.now g.opening) c.loop-event.state c.args.log.now c.loop-event.event-index c.event-item.result _ _ c.loop-event.invariant.stands c.loop-event.invariant.log c.in_ok-write_event.ensures.whole) in
    rw p.1 (still_front _ _ _ _ _ refl written)

pub follow-requires : goal.follow-requires
follow-requires g c = (c.loop-event.invariant.stands, next-legal (basis_of c.args.facts.now g.opening) c.args.log.now c.loop-event.event-index c.event-item.result c.loop-event.state.log c.loop-event-test.true c.event-item.is c.loop-event.invariant.log c.requires.1.1.1)

pub loop-event-preserved : goal.loop-event-preserved
loop-event-preserved g c = record {
  so_far =
      event_written (in_turn (lines_in (basis_of c.args.facts.now g.opening)) [] c.args.log.now) (lines_in (basis_of c.args.facts.now g.opening)) c.args.log.now c.loop-event.event-index c.event-item.result _ _ _ c.loop-event-test.true c.event-item.is c.loop-event.invariant.so_far
      (lines-took (basis_of c.args.facts.now g.opening) c.loop-event.state c.args.log.now c.loop-event.event-index c.event-item.result _ _ c.loop-event.invariant.stands c.loop-event.invariant.log c.in_ok-write_event.ensures.whole);
  quiet = rw c.in_ok-write_event.ensures.quiet c.loop-event.invariant.quiet;
  log = follow-log c.args.log.now c.loop-event.event-index c.event-item.result _ _ c.loop-event-test.true c.event-item.is c.loop-event.invariant.log c.in_ok-follow.ensures.log;
  stands = c.in_ok-follow.ensures.stands;
}
