use Rattle.std.proofs.Common.{List, map, refl, ap, ◌∙◌, subst}
use Rattle.fw_facts.specs.declared.seen.Seen.{Seen}
use Rattle.emulated_boards.specs.Boards.{BoardState}
use Rattle.daemon_core.specs.HouseLog.{IsBlank}
use Rattle.daemon_core.specs.House.{shown_by}
use Rattle.daemon_core.proofs.Beginnings.{house-new}
use Rattle.daemon_core.proofs.house.House.new.Goals as goal

pub invariant_of-result : goal.invariant_of-result
invariant_of-result g c =
    house-new _ c.args.facts c.args.boards.items c.args.pool c.args.keeper _
    (record { blank = subst (λ (f : List Seen). IsBlank c.args.facts f c.in-Ok-new.house_log) (c.in-Ok.ensures ∙ ap (λ (x : List BoardState). map shown_by x) c.deref.ensures.value) c.in-Ok-new.ensures.blank; places = c.fill_places.ensures; pool_is = refl; keeper_is = refl })
    c.requires.count c.requires.fresh c.requires.no_doubt c.requires.capacity c.requires.free
