use Rattle.std.proofs.Common.{ap, ◌∙◌, subst, refl, true}
use Rattle.std.specs.Prelude.{IsSome}
use Rattle.std.specs.Str.{bytes_eq}
use Rattle.indexmap.specs.IndexMap.{get}
use Rattle.device_list.specs.Guids.{items_of, with_last, IsReadyFor}
use Rattle.device_list.proofs.GuidLaws.{noted_at, kept_at}
use Rattle.device_list.proofs.guid_index.note.Goals as goal

pub returns-in-Some-clause-noted : goal.returns-in-Some-clause-noted
returns-in-Some-clause-noted c = λ q.
    let had = c.in-Some.ensures.value in
    let now = (c.get_mut.follows.holds c.push_once.new.places).3 (subst IsSome had refl) in
    noted_at (get bytes_eq c.args.index.now) c.args.guid.now q c.push_once.new.places _ (now.0 q) c.args.at (c.push_once.ensures.noted ∙ ap (λ o. with_last true c.args.at (items_of o)) had)

pub returns-in-Some-clause-kept : goal.returns-in-Some-clause-kept
returns-in-Some-clause-kept c = λ q.
    let had = c.in-Some.ensures.value in
    let now = (c.get_mut.follows.holds c.push_once.new.places).3 (subst IsSome had refl) in
    kept_at (get bytes_eq c.args.index.now) c.args.guid.now q c.push_once.new.places _ (now.0 q) (IsReadyFor c.args.at) c.push_once.ensures.ready
