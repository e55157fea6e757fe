use Rattle.std.proofs.Common.{◌≡◌, map, take}
use Rattle.report_view.specs.Lanes.{names_of}
use Rattle.report_view.proofs.lanes.push_names.Given as goal

abbrev pub invariant-loop-row : goal.invariant-loop-row
invariant-loop-row l = map (λ known. known.now) l.names.items ≡ names_of (map (λ line. line.now) l.lines) (take l.row-index l.rows)
