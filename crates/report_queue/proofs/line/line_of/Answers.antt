use Rattle.report_queue.proofs.Texts.{line-parts, three_parts}
use Rattle.report_queue.proofs.line.line_of.Goals as goal

pub returns : goal.returns
returns c = three_parts _ _ _ _ _ _ _ _ c.new-text.ensures.items c.in_ok-put_first.ensures c.in_ok-put_next.ensures c.in_ok-put_last.ensures (line-parts c.args.row.now)
