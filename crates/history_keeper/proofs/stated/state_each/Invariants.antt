use Rattle.std.proofs.Common.{◌≡◌, ◌++◌, map, take, drop}
use Rattle.history_keeper.specs.Changes.{with_state}
use Rattle.history_keeper.proofs.stated.state_each.Given as goal

abbrev pub invariant-loop-row : goal.invariant-loop-row
invariant-loop-row l = l.rows ≡ map (with_state l.entry l.state l.reason l.time) (take l.row-index l.initial.rows) ++ drop l.row-index l.initial.rows
