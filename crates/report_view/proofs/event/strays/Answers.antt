use Rattle.std.proofs.Common.{◌+◌}
use Rattle.report_view.proofs.EventTurns.{texts_from, none_from, strays_more, strays_all}
use Rattle.report_view.proofs.event.strays.Goals as goal

pub loop-at-preserved : goal.loop-at-preserved
loop-at-preserved c =
    strays_more _ _ _ (c.loop-at.at + 1) c.read_line-told.result c.loop-at.owned c.is_owner-owned.result c.loop-at.found.items c.push_stray.new.found.items _
    (texts_from c.args.lines.now c.loop-at.at _ c.loop-at-test.true) c.read_line-told.ensures c.in_ok-push_stray.ensures c.is_owner-owned.ensures c.loop-at.invariant

pub returns : goal.returns
returns c =
    strays_all _ (c.loop-at.at + 1) c.loop-at.owned c.loop-at.found.items _ (none_from c.args.lines.now c.loop-at.at c.loop-at-test.false) c.loop-at.invariant
