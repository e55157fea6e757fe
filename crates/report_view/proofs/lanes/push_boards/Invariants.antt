use Rattle.std.proofs.Common.{◌≡◌, map, take}
use Rattle.report_view.specs.Lanes.{boards_of}
use Rattle.report_view.proofs.lanes.push_boards.Given as goal

abbrev pub invariant-loop-line : goal.invariant-loop-line
invariant-loop-line l = map (λ known. known.now) l.names.items ≡ boards_of (take l.line-index (map (λ line. line.now) l.lines))
