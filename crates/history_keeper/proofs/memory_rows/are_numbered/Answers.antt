use Rattle.std.proofs.Common.{◌≡◌, Some, ap, sym, ◌∙◌, arith}
use Rattle.std.specs.Prelude.{slice_get}
use Rattle.std.proofs.lemmas.Option.{slice_get-get_or}
use Rattle.history_keeper.specs.declared.row.Row.{Row}
use Rattle.history_keeper.proofs.Numbered.{numbered-all, numbered-more}
use Rattle.history_keeper.proofs.memory_rows.are_numbered.Goals as goal

pub loop-at-preserved : goal.loop-at-preserved
loop-at-preserved c =
    let row = c.index-rows-at.result in
    let there : slice_get c.args.rows.now c.loop-at.at ≡ Some row = slice_get-get_or c.args.rows.now c.loop-at.at row (omega arith) ∙ ap Some (sym c.index-rows-at.is) in
    let same = ap (λ (x : Row). x.entry) c.index-rows-at.is in
    numbered-more c.loop-at.at c.args.rows.now row c.loop-at.invariant there (omega (arith, same, c.if-rows-at.false))

pub returns : goal.returns
returns c = λ yes. numbered-all c.loop-at.at c.args.rows.now c.loop-at.invariant (omega arith)
