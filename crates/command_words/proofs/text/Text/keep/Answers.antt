use Rattle.fw_base.proofs.Keeping.{kept_is_padded}
use Rattle.command_words.proofs.text.Text.keep.Goals as goal

pub invariant_of-result : goal.invariant_of-result
invariant_of-result c = kept_is_padded 255 c.copy_from_slice.new.self c.args.bytes.now c.copy_from_slice.ensures.after c.requires
