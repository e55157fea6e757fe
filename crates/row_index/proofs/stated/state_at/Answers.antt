use Rattle.std.proofs.Common.{◌≡◌, Some, ap, sym, ◌∙◌}
use Rattle.std.specs.Prelude.{slice_get, slice_set}
use Rattle.std.proofs.lemmas.Option.{slice_get-get_or}
use Rattle.history_keeper.specs.declared.row.Row.{Row}
use Rattle.history_keeper.specs.Histories.{is_unsettled}
use Rattle.history_keeper.proofs.Numbered.{stated-within}
use Rattle.row_index.proofs.Places.{not-settled, waits-before}
use Rattle.row_index.proofs.stated.state_at.Goals as goal

pub returns-then-is_unsettled-clause-stated : goal.returns-then-is_unsettled-clause-stated
returns-then-is_unsettled-clause-stated c =
    let row = c.index-rows-at-2.result in
    let there : slice_get c.args.rows.now c.args.at ≡ Some row = slice_get-get_or c.args.rows.now c.args.at row c.requires.within ∙ ap Some (sym c.index-rows-at-2.is) in
    ap (slice_set c.args.rows.now c.args.at) c.stated.ensures
    ∙ stated-within c.args.entry c.args.state c.args.reason c.args.time c.args.rows.now c.args.at row c.requires.numbered there c.requires.there

pub returns-then-is_unsettled-clause-settled : goal.returns-then-is_unsettled-clause-settled
returns-then-is_unsettled-clause-settled c =
    let row = c.index-rows-at.result in
    let there : slice_get c.args.rows.now c.args.at ≡ Some row = slice_get-get_or c.args.rows.now c.args.at row c.requires.within ∙ ap Some (sym c.index-rows-at.is) in
    not-settled c.is_unsettled-then-is_unsettled.result _
    (λ u. waits-before c.args.entry c.args.state c.args.reason c.args.time c.args.rows.now c.args.at row c.requires.numbered there c.requires.there (ap (λ (x : Row). is_unsettled x.state) c.index-rows-at.is ∙ sym c.is_unsettled-then-is_unsettled.ensures ∙ u))

pub returns-else-is_unsettled-clause-stated : goal.returns-else-is_unsettled-clause-stated
returns-else-is_unsettled-clause-stated c =
    let row = c.index-rows-at-2.result in
    let there : slice_get c.args.rows.now c.args.at ≡ Some row = slice_get-get_or c.args.rows.now c.args.at row c.requires.within ∙ ap Some (sym c.index-rows-at-2.is) in
    ap (slice_set c.args.rows.now c.args.at) c.stated.ensures
    ∙ stated-within c.args.entry c.args.state c.args.reason c.args.time c.args.rows.now c.args.at row c.requires.numbered there c.requires.there
