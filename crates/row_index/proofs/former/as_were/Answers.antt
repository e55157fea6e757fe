use Rattle.std.proofs.Common.{length, ap, ◌∙◌, arith}
use Rattle.std.proofs.lemmas.List.{length-take}
use Rattle.row_index.specs.Formers.{as_were}
use Rattle.history_keeper.specs.declared.row.Row.{Row}
use Rattle.row_index.proofs.Formers.{as_were-taken}
use Rattle.row_index.proofs.former.as_were.Goals as goal

pub put_all_back-requires : goal.put_all_back-requires
put_all_back-requires c =
    let l = ap (length {A = Row}) c.truncate.ensures.items ∙ length-take (length c.args.formers.now) c.args.rows.items in
    omega (arith, l)

pub returns : goal.returns
returns c =
    c.put_all_back.ensures
    ∙ ap (as_were c.args.formers.now) c.truncate.ensures.items
    ∙ as_were-taken c.args.formers.now c.args.rows.items
