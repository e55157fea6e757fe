use Rattle.std.proofs.Common.{◌≡◌, ◌++◌, map, take, drop}
use Rattle.report_view.specs.Rows.{row_after}
use Rattle.report_view.proofs.entries.change_rows.Given as goal

abbrev pub invariant-loop-row : goal.invariant-loop-row
invariant-loop-row l =
    l.rows
    ≡ map (row_after (map (λ line. line.now) l.lines) l.event.number l.event.at l.event.kind) (take l.row-index l.initial.rows) ++ drop l.row-index l.initial.rows
