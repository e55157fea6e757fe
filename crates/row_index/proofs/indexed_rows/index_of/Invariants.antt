use Rattle.std.proofs.Common.{take}
use Rattle.row_index.specs.Indexes.{IsIndexOf}
use Rattle.row_index.proofs.indexed_rows.index_of.Given as goal

abbrev pub invariant-loop-at : goal.invariant-loop-at
invariant-loop-at l = IsIndexOf (take l.at l.rows) l.index.tags l.index.waiting
