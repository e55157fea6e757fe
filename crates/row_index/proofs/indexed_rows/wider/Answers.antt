use Rattle.row_index.proofs.indexed_rows.wider.Goals as goal

pub returns-clause-index : goal.returns-clause-index
returns-clause-index c = c.in_ok-reserve.ensures.same c.args.rows.now c.requires
