use Rattle.std.proofs.Common.{◌<◌, sym, ◌∙◌, arith, [], ◌∷◌}
use Rattle.release_catalogue.proofs.Indexes.{says_of_all, within}
use Rattle.release_catalogue.proofs.lookup.providers.Goals as goal

pub marks_of-requires : goal.marks_of-requires
marks_of-requires c = λ guid place h.
    let inside : place < 4096 = omega (arith, within (guid ∷ []) c.args.components.now place (sym (c.requires.index guid place) ∙ h)) in inside

pub returns : goal.returns
returns c = λ place. c.marks_of.ensures place ∙ says_of_all c.args.index.now.entries c.args.components.now c.args.guids.now place c.requires.index
