use Rattle.std.proofs.Common.{arith}
use Rattle.update_plans.proofs.Tags.{step_tag-short}
use Rattle.update_plans.proofs.requests.tag_text.Goals as goal

pub append-requires-2 : goal.append-requires-2
append-requires-2 c =
    let short = step_tag-short c.args.tag.now c.args.number c.requires.tag c.requires.number in
    grind (arith, short)
