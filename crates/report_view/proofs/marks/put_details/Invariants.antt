use Rattle.std.proofs.Common.{◌≡◌, ◌++◌, map, drop}
use Rattle.report_view.specs.Marks.{details}
use Rattle.report_view.proofs.marks.put_details.Given as goal

abbrev pub invariant-loop-line : goal.invariant-loop-line
invariant-loop-line l =
    l.out.items ++ details (drop l.line-index (map (λ line. line.now) l.lines)) ≡ l.fn.out.items ++ details (map (λ line. line.now) l.lines)
