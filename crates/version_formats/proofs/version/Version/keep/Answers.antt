use Rattle.fw_base.proofs.Keeping.{keeps}
use Rattle.version_formats.specs.Versions.{version_read}
use Rattle.version_formats.proofs.version.Version.keep.Goals as goal

pub invariant_of-result : goal.invariant_of-result
invariant_of-result c =
    keeps 64 c.copy_from_slice.new.self c.args.bytes.now c.copy_from_slice.ensures.after c.requires.short version_read c.requires.accepted
