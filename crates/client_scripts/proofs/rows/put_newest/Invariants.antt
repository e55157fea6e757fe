use Rattle.std.proofs.Common.{reverse}
use Rattle.client_scripts.specs.Replies.{row_line}
use Rattle.client_scripts.proofs.Pieces.{PutUpTo}
use Rattle.client_scripts.proofs.rows.put_newest.Given as goal

abbrev pub invariant-loop-at : goal.invariant-loop-at
invariant-loop-at l = PutUpTo (row_line l.views) (reverse l.rows) l.at l.fn.out.items l.out.items
