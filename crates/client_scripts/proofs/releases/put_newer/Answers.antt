use Rattle.std.proofs.Common.{◌∙◌}
use Rattle.client_scripts.proofs.Placed.{upgrades_told}
use Rattle.client_scripts.proofs.releases.put_newer.Goals as goal

pub returns-in_ok-put_places-in-Some : goal.returns-in_ok-put_places-in-Some
returns-in_ok-put_places-in-Some c =
    upgrades_told c.args.catalogue.now c.args.view.now c.in-Some.shown c.guids.result.now c.in_ok-places-in-Some.places.items c.deref.result.now c.args.out.now.items c.put_places.new.out.items c.in-Some.ensures c.guids.ensures c.in_ok-places-in-Some.ensures (c.deref.ensures.value ∙ c.keep_newer.ensures) c.in_ok-put_places-in-Some.ensures
