use Rattle.std.proofs.Common.{sym, ◌∙◌}
use Rattle.row_index.proofs.Places.{found-past, found-within}
use Rattle.row_index.proofs.indexed_rows.row_numbered.Goals as goal

pub returns-in_err-at : goal.returns-in_err-at
returns-in_err-at c = rw c.from_residual.ensures (sym (found-past c.args.rows.now c.args.entry c.requires c.in_err-at.ensures.past))

pub returns : goal.returns
returns c =
    let at = c.in_ok-at.ensures.found in
    c.get.ensures ∙ found-within c.args.rows.now c.in_ok-at.at c.args.entry c.requires at.0 at.1
