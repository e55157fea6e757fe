use Rattle.std.proofs.Common.{◌≡◌, map, take}
use Rattle.report_view.specs.Pages.{last_told}
use Rattle.report_view.proofs.page.last_told.Given as goal

abbrev pub invariant-loop-line : goal.invariant-loop-line
invariant-loop-line l = l.told ≡ last_told (take l.line-index (map (λ line. line.now) l.lines))
