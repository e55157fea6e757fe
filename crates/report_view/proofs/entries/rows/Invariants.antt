use Rattle.std.proofs.Common.{◌≡◌, map, take}
use Rattle.report_view.specs.Rows.{rows_of}
use Rattle.report_view.proofs.entries.rows.Given as goal

abbrev pub invariant-loop-event : goal.invariant-loop-event
invariant-loop-event l = l.rows.items ≡ rows_of (map (λ line. line.now) l.lines) (take l.event-index l.events)
