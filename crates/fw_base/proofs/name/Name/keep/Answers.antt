use Rattle.fw_base.proofs.Keeping.{keeps}
use Rattle.fw_base.specs.Names.{name_read}
use Rattle.fw_base.proofs.name.Name.keep.Goals as goal

pub invariant_of-result : goal.invariant_of-result
invariant_of-result c =
    keeps 64 c.copy_from_slice.new.self c.args.bytes.now c.copy_from_slice.ensures.after c.requires.short name_read c.requires.accepted
