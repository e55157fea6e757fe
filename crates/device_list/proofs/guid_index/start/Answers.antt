use Rattle.std.proofs.Common.{◌<◌, arith, sym, ◌∙◌}
use Rattle.std.specs.Prelude.{vec_len, vec_capacity}
use Rattle.std.specs.Str.{bytes_eq}
use Rattle.indexmap.specs.IndexMap.{get}
use Rattle.device_list.proofs.GuidLaws.{same_at, kept_at}
use Rattle.device_list.proofs.guid_index.start.Goals as goal

pub returns-clause-same : goal.returns-clause-same
returns-clause-same c = λ q.
    same_at (get bytes_eq c.args.index.now) c.args.guid q c.in_ok-places.places _ (c.in_ok-insert.ensures.updates.0 q) (c.in_ok-places.ensures.items ∙ sym c.requires)

pub returns-clause-kept : goal.returns-clause-kept
returns-clause-kept c = λ q.
    kept_at (get bytes_eq c.args.index.now) c.args.guid q c.in_ok-places.places _ (c.in_ok-insert.ensures.updates.0 q) (λ v. vec_len v < vec_capacity v) (omega (arith, c.in_ok-places.ensures.len, c.in_ok-places.ensures.capacity))
