use Rattle.std.proofs.Common.{List, sym, subst}
use Rattle.history_keeper.specs.declared.row.Row.{Row}
use Rattle.row_index.specs.declared.index.Index.{Index}
use Rattle.row_index.specs.Indexes.{IsIndexOf}
use Rattle.row_index.proofs.IndexLaws.{some-at, stated}
use Rattle.row_index.proofs.indexed_rows.advanced.Goals as goal

pub returns-else-state_numbered-clause-index : goal.returns-else-state_numbered-clause-index
returns-else-state_numbered-clause-index c =
    let i = c.in-Some.index in
    let before = some-at (λ (j : Index). IsIndexOf c.args.rows.now j.tags j.waiting) c.args.index i c.in-Some.is c.requires in
    subst (λ (rows : List Row). IsIndexOf rows i.tags i.waiting) (sym c.state_numbered.ensures.stated)
    (stated c.args.entry c.args.state c.args.reason c.args.time c.args.rows.now i.tags i.waiting c.if-state_numbered.ensures.settled before)
