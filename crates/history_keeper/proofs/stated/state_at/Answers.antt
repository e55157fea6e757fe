use Rattle.std.proofs.Common.{◌≡◌, Some, ap, sym, ◌∙◌}
use Rattle.std.specs.Prelude.{slice_get, slice_set}
use Rattle.std.proofs.lemmas.Option.{slice_get-get_or}
use Rattle.history_keeper.proofs.Numbered.{stated-within}
use Rattle.history_keeper.proofs.stated.state_at.Goals as goal

pub returns : goal.returns
returns c =
    let row = c.index-rows-at.result in
    let there : slice_get c.args.rows.now c.args.at ≡ Some row = slice_get-get_or c.args.rows.now c.args.at row c.requires.within ∙ ap Some (sym c.index-rows-at.is) in
    ap (slice_set c.args.rows.now c.args.at) c.stated.ensures
    ∙ stated-within c.args.entry c.args.state c.args.reason c.args.time c.args.rows.now c.args.at row c.requires.numbered there c.requires.there
