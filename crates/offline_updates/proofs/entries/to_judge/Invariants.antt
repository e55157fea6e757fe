use Rattle.std.proofs.Common.{◌≡◌, take}
use Rattle.offline_updates.specs.Waiting.{entries_where, is_to_judge}
use Rattle.offline_updates.proofs.entries.to_judge.Given as goal

abbrev pub invariant-loop-row : goal.invariant-loop-row
invariant-loop-row l = l.entries.items ≡ entries_where is_to_judge (take l.row-index l.rows)
