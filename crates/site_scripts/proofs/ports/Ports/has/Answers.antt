use Rattle.site_scripts.proofs.References.{any_text}
use Rattle.site_scripts.proofs.ports.Ports.has.Goals as goal

pub returns : goal.returns
returns c =
    let found = c.contains.ensures in
    let told = any_text c.args.port.now c.self.inside.names.keys in
    let seen = c.self.view_is in
    cc
