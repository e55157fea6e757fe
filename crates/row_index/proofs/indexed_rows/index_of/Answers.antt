use Rattle.std.proofs.Common.{take}
use Rattle.row_index.proofs.indexed_rows.index_of.Goals as goal

pub note-requires-clause-index : goal.note-requires-clause-index
note-requires-clause-index c = c.in_ok-reserve.ensures.same (take c.loop-at.at c.args.rows.now) c.loop-at.invariant
