use Rattle.report_view.proofs.EventTurns.{texts_from, none_from, events_more, events_all}
use Rattle.report_view.proofs.event.events.Goals as goal

pub loop-at-preserved : goal.loop-at-preserved
loop-at-preserved c =
    events_more _ _ _ c.loop-at.at c.loop-at.found.items c.push_event.new.found.items _ (texts_from c.args.lines.now c.loop-at.at _ c.loop-at-test.true)
    c.in_ok-push_event.ensures c.loop-at.invariant

pub returns : goal.returns
returns c = events_all _ c.loop-at.at c.loop-at.found.items _ (none_from c.args.lines.now c.loop-at.at c.loop-at-test.false) c.loop-at.invariant
