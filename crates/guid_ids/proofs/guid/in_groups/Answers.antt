use Rattle.std.proofs.Common.{◌∙◌, ap, length}
use Rattle.guid_ids.proofs.GuidLemmas.{parts_joined, length-grouped, array-of_full}
use Rattle.guid_ids.proofs.guid.in_groups.Goals as goal

pub returns : goal.returns
returns c =
    let joined = parts_joined _ _ _ _ _ _ _ _ _ _ _ _ _ _ _ _ c.new-text.ensures c.append.ensures.items c.push.ensures.items
    c.append-2.ensures.items c.push-2.ensures.items c.append-3.ensures.items c.push-3.ensures.items
    c.append-4.ensures.items c.push-4.ensures.items c.append-5.ensures.items in
    let full = c.into_inner.ensures.variant.1 (ap length joined ∙ length-grouped c.args.digits.now c.told-digits) in
    c.unwrap_or.ensures ∙ array-of_full _ _ _ full c.into_inner.ensures.ok ∙ joined
