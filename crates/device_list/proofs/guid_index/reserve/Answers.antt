use Rattle.std.proofs.Common.{◌<◌, sym, ap, ◌∙◌, subst, refl}
use Rattle.std.specs.Prelude.{vec_len, vec_capacity, IsSome}
use Rattle.std.specs.Str.{bytes_eq}
use Rattle.indexmap.specs.IndexMap.{get}
use Rattle.device_list.specs.Guids.{items_of}
use Rattle.device_list.proofs.GuidLaws.{same_at, kept_from}
use Rattle.device_list.proofs.guid_index.reserve.Goals as goal

pub returns-in-Some-clause-same : goal.returns-in-Some-clause-same
returns-in-Some-clause-same c = λ q.
    let had = c.in-Some.ensures.value in
    let now = (c.get_mut.follows.holds c.grow.new.places).3 (subst IsSome had refl) in
    same_at (get bytes_eq c.args.index.now) c.args.guid q c.grow.new.places _ (now.0 q) (c.grow.ensures.same ∙ ap items_of had)

pub returns-in-Some-clause-kept : goal.returns-in-Some-clause-kept
returns-in-Some-clause-kept c = λ q.
    let had = c.in-Some.ensures.value in
    let now = (c.get_mut.follows.holds c.grow.new.places).3 (subst IsSome had refl) in
    kept_from (get bytes_eq c.args.index.now) c.args.guid q c.grow.new.places _ (now.0 q) (λ v. vec_len v < vec_capacity v) c.in-Some.places.now (sym had) c.grow.ensures.kept
