use Rattle.history_keeper.proofs.Numbered.{NumberedBefore}
use Rattle.history_keeper.proofs.memory_rows.are_numbered.Given as goal

abbrev pub invariant-loop-at : goal.invariant-loop-at
invariant-loop-at l = NumberedBefore l.at l.rows
