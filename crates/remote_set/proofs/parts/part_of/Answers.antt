use Rattle.remote_set.specs.declared.rank.Rank.{Rank}
use Rattle.remote_set.specs.Indexes.{is_offered_before}
use Rattle.remote_set.proofs.Left.{few_left, small_left}
use Rattle.remote_set.proofs.parts.part_of.Goals as goal

pub of-requires-clause-few_releases : goal.of-requires-clause-few_releases
of-requires-clause-few_releases c =
    let rank : Rank = record { order = c.args.remote.order; place = c.args.place } in
    small_left (is_offered_before c.args.index.now.entries rank) c.args.remote.catalogue c.into_components.result.items c.in_ok-components.components.items
    c.in_ok-components.ensures c.into_components.ensures c.within_limits.ensures.few_releases

pub of-requires-clause-few_requirements : goal.of-requires-clause-few_requirements
of-requires-clause-few_requirements c =
    let rank : Rank = record { order = c.args.remote.order; place = c.args.place } in
    few_left (is_offered_before c.args.index.now.entries rank) c.args.remote.catalogue c.into_components.result.items c.in_ok-components.components.items
    c.in_ok-components.ensures c.into_components.ensures c.within_limits.ensures.few_requirements
