use Rattle.std.proofs.Common.{arith}
use Rattle.std.proofs.lemmas.List.Edits.{map_over_more}
use Rattle.history_keeper.specs.Changes.{with_state}
use Rattle.history_keeper.proofs.stated.state_each.Goals as goal

pub loop-row-preserved : goal.loop-row-preserved
loop-row-preserved c =
    rw (c.stated.ensures, ← c.row-item.is)
    (map_over_more (with_state c.args.entry c.args.state c.args.reason c.args.time) c.args.rows.now c.loop-row.rows c.loop-row.row-index c.row-item.result (omega arith) c.loop-row.invariant c.row-item.is)
