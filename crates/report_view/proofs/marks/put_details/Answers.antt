use Rattle.std.proofs.Common.{◌∙◌, sym}
use Rattle.report_view.proofs.EventTurns.{texts_from, none_from}
use Rattle.report_view.proofs.TextTurns.{details_more, details_end, details_none}
use Rattle.report_view.proofs.marks.put_details.Goals as goal

pub loop-line-preserved : goal.loop-line-preserved
loop-line-preserved c =
    details_more _ _ _ c.loop-line.out.items c.put_detail.new.out.items _ (texts_from c.args.lines.now c.loop-line.line-index _ c.loop-line-test.true)
    (sym c.goes_on.ensures ∙ c.if-not-goes_on.false) c.in_ok-put_detail.ensures c.loop-line.invariant

pub returns-then-not-goes_on : goal.returns-then-not-goes_on
returns-then-not-goes_on c =
    details_end _ _ _ c.loop-line.out.items _ (texts_from c.args.lines.now c.loop-line.line-index _ c.loop-line-test.true)
    (sym c.goes_on.ensures ∙ c.if-not-goes_on.true) c.loop-line.invariant

pub returns : goal.returns
returns c = details_none _ c.loop-line.out.items _ (none_from c.args.lines.now c.loop-line.line-index c.loop-line-test.false) c.loop-line.invariant
