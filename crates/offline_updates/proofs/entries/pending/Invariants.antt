use Rattle.std.proofs.Common.{◌≡◌, take}
use Rattle.offline_updates.specs.Waiting.{entries_where, is_pending}
use Rattle.offline_updates.proofs.entries.pending.Given as goal

abbrev pub invariant-loop-row : goal.invariant-loop-row
invariant-loop-row l = l.entries.items ≡ entries_where is_pending (take l.row-index l.rows)
