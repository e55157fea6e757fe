use Rattle.fw_base.proofs.Keeping.{keeps}
use Rattle.fw_base.specs.Lines.{line_read}
use Rattle.fw_base.proofs.line.Line.keep.Goals as goal

pub invariant_of-result : goal.invariant_of-result
invariant_of-result c =
    keeps 255 c.copy_from_slice.new.self c.args.bytes.now c.copy_from_slice.ensures.after c.requires.short line_read c.requires.accepted
