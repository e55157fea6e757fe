use Rattle.site_scripts.proofs.References.{place_of_text}
use Rattle.site_scripts.proofs.ports.Ports.place.Goals as goal

pub returns-clause-found : goal.returns-clause-found
returns-clause-found c =
    let found = c.get_index_of.ensures.index in
    let told = place_of_text c.args.port.now c.self.inside.names.keys in
    let seen = c.self.view_is in
    cc
