use Rattle.std.proofs.Common.{List, ◌++◌, ap, sym, arith}
use Rattle.history_keeper.specs.declared.row.Row.{Row}
use Rattle.row_index.proofs.Formers.{as_were-more, as_were-none, as_were-whole}
use Rattle.row_index.proofs.former.put_back.Goals as goal

pub loop-at-init : goal.loop-at-init
loop-at-init c = ap (λ (front : List Row). front ++ c.args.rows.now) (sym (as_were-none c.args.formers.now))

pub loop-at-preserved : goal.loop-at-preserved
loop-at-preserved c =
    rw c.as_before.ensures
    (as_were-more c.args.formers.now c.args.rows.now c.loop-at.rows c.loop-at.at _ c.index-rows-at.result (omega arith) (omega arith) c.loop-at.invariant c.index-rows-at.is)

pub returns : goal.returns
returns c = as_were-whole c.args.formers.now c.args.rows.now c.loop-at.rows c.loop-at.at (omega arith) c.loop-at.invariant
