use Rattle.std.proofs.Common.{◌≡◌, ◌++◌, codes, decimal, Ok, ap, ◌∙◌}
use Rattle.fw_base.specs.Names.{name_read}
use Rattle.update_plans.proofs.Tags.{step_tag-read}
use Rattle.update_plans.proofs.requests.step_tag.Goals as goal

pub unreachable-requires : goal.unreachable-requires
unreachable-requires c =
    let read : name_read c.as_slice.result.now ≡ Ok (c.args.tag.now ++ codes "-" ++ decimal c.args.number) =
    ap name_read (c.as_slice.ensures.value ∙ c.tag_text-text.ensures) ∙ step_tag-read c.args.tag.now c.args.number c.requires.tag c.requires.number in
    cc
