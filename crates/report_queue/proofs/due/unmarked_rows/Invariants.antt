use Rattle.std.proofs.Common.{◌≡◌, ◌≤◌, ◌&&◌, filter, length, map, not, take, Bor}
use Rattle.std.specs.Prelude.{nat_eq}
use Rattle.indexmap.specs.IndexSet.{contains}
use Rattle.history_keeper.specs.declared.row.Row.{Row}
use Rattle.report_queue.specs.Sending.{is_judged}
use Rattle.report_queue.proofs.due.unmarked_rows.Given as goal

abbrev pub invariant-loop-row : goal.invariant-loop-row
invariant-loop-row l = record {
  found : map (λ (row : Bor Row). row.now) l.found.items ≡ filter (λ (row : Row). is_judged row.state && not (contains nat_eq l.marked row.entry)) (take l.row-index l.rows);
  few : length (map (λ (row : Bor Row). row.now) l.found.items) ≤ l.max;
}
