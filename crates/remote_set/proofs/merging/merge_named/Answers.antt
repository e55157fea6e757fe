use Rattle.std.proofs.lemmas.Result.{err_from_is_err_and}
use Rattle.remote_set.proofs.Wholes.{is_merged, no_whole, whole_merged}
use Rattle.remote_set.proofs.merging.merge_named.Goals as goal

pub returns-in_err-catalogue : goal.returns-in_err-catalogue
returns-in_err-catalogue c =
    let p = err_from_is_err_and c.from_residual-in_err-catalogue.result c.from_residual-in_err-catalogue.ensures.1 in
    rw (p.1, p.2)
    (no_whole c.in_err-catalogue.field-0.0 c.args.remotes.items c.in_ok-components.components.items c.requires.named
    (is_merged c.args.remotes.items c.in_ok-left.left.parts.items c.in_ok-arranged.field-0.items c.in_ok-components.components.items c.in_ok-left.ensures.parts c.in_ok-arranged.ensures.items c.in_ok-components.ensures.items)
    c.in_err-catalogue.ensures)

pub returns : goal.returns
returns c =
    whole_merged c.args.remotes.items c.in_ok-components.components.items c.in_ok-catalogue.catalogue c.in_ok-left.left.kept.items c.requires.named
    (is_merged c.args.remotes.items c.in_ok-left.left.parts.items c.in_ok-arranged.field-0.items c.in_ok-components.components.items c.in_ok-left.ensures.parts c.in_ok-arranged.ensures.items c.in_ok-components.ensures.items)
    c.in_ok-left.ensures.kept c.in_ok-catalogue.ensures
