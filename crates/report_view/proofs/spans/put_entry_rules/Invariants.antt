use Rattle.std.proofs.Common.{map}
use Rattle.report_view.specs.Spans.{entry_rule}
use Rattle.report_view.proofs.PutPieces.{PutUpTo}
use Rattle.report_view.proofs.spans.put_entry_rules.Given as goal

abbrev pub invariant-loop-row : goal.invariant-loop-row
invariant-loop-row l = PutUpTo (entry_rule (map (λ line. line.now) l.lines) (map (λ name. name.now) l.names) l.before) l.rows l.row-index l.fn.out.items l.out.items
