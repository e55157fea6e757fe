use Rattle.std.proofs.Common.{map}
use Rattle.report_view.specs.Pages.{stray_item}
use Rattle.report_view.proofs.PutPieces.{PutUpTo}
use Rattle.report_view.proofs.page.put_strays.Given as goal

abbrev pub invariant-loop-number : goal.invariant-loop-number
invariant-loop-number l = PutUpTo (stray_item (map (λ line. line.now) l.lines)) l.strays l.number-index l.fn.out.items l.out.items
