use Rattle.std.proofs.Common.{◌≤◌, length, arith}
use Rattle.outer_traits.specs.Shelves.{bytes_of}
use Rattle.install_engine.proofs.Fronts.{longer_if_told}
use Rattle.install_engine.proofs.fetching.read_piece.Goals as goal

pub returns-clause-longer : goal.returns-clause-longer
returns-clause-longer g c =
    let sized = c.args.blocks.now.sized in
    let there : c.args.at ≤ length c.args.blocks.now.bytes = omega (arith, c.requires) in
    longer_if_told (g.P.Shelf.files c.args.shelf.now) (λ all. bytes_of all c.args.name.now) c.args.blocks.now.bytes c.fill.new.self.bytes c.read.new.into c.args.at c.from.result c.in_ok-more.more there c.in_ok-more.ensures.bound c.from.ensures c.fill.ensures.written c.in_ok-more.ensures.bytes
