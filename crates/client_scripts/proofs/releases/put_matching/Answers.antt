use Rattle.std.proofs.Common.{◌∙◌}
use Rattle.client_scripts.proofs.Placed.{releases_told}
use Rattle.client_scripts.proofs.releases.put_matching.Goals as goal

pub returns-in_ok-put_places-in-Some : goal.returns-in_ok-put_places-in-Some
returns-in_ok-put_places-in-Some c =
    releases_told c.args.catalogue.now c.args.view.now c.in-Some.shown c.guids.result.now c.deref.result.now c.args.out.now.items c.put_places.new.out.items c.in-Some.ensures c.guids.ensures (c.deref.ensures.value ∙ c.in_ok-places-in-Some.ensures) c.in_ok-put_places-in-Some.ensures
