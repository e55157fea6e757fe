use Rattle.std.proofs.Common.{Option, ap, sym, ◌∙◌}
use Rattle.std.specs.Prelude.{option_and_then, option_map, slice_get}
use Rattle.row_index.specs.Formers.{as_before}
use Rattle.row_index.specs.declared.former.Former.{Former}
use Rattle.history_keeper.specs.declared.row.Row.{Row}
use Rattle.row_index.proofs.Formers.{as_were-at}
use Rattle.row_index.proofs.former.row_as_it_was.Goals as goal

pub returns-in-Some : goal.returns-in-Some
returns-in-Some c =
    c.row_before.ensures
    ∙ ap (λ (row : Option Row). option_map (as_before c.in-Some.former) row) c.row_at.ensures
    ∙ ap (λ (former : Option Former). option_and_then (λ f. option_map (as_before f) (slice_get c.args.rows.now c.args.at)) former) c.in-Some.ensures
    ∙ sym (as_were-at c.args.formers.now c.args.rows.now c.args.at)

pub returns-in-None : goal.returns-in-None
returns-in-None c =
    ap (λ (former : Option Former). option_and_then (λ f. option_map (as_before f) (slice_get c.args.rows.now c.args.at)) former) c.in-None.ensures
    ∙ sym (as_were-at c.args.formers.now c.args.rows.now c.args.at)
