use Rattle.std.proofs.Common.{◌&&◌, ◌==◌, not, false, ◌∙◌}
use Rattle.std.proofs.lemmas.Bool.{and_parts}
use Rattle.std.specs.Prelude.{option_map, unwrap_or}
use Rattle.std.specs.Str.{bytes_eq}
use Rattle.history_keeper.specs.Histories.{is_unsettled}
use Rattle.update_log.specs.Holding.{is_live}
use Rattle.request_verdicts.proofs.row_lookup.in_the_way.Goals as goal

pub returns : goal.returns
returns c =
    c.first_in_the_way.ensures
    ∙ c.near.ensures
    (λ r. bytes_eq r.device c.args.device.now && is_unsettled r.state && not (is_live c.args.live.now r.entry) && not (unwrap_or (option_map (λ entry. entry == r.entry) c.args.own) false))
    (λ r h. (and_parts _ _ (and_parts _ _ h).0).0)
