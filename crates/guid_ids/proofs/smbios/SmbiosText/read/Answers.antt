use Rattle.std.proofs.Common.{◌∙◌, sym}
use Rattle.guid_ids.proofs.HardwareLemmas.{smbios_read-none}
use Rattle.guid_ids.proofs.smbios.SmbiosText.read.Goals as goal

pub returns-in-Err : goal.returns-in-Err
returns-in-Err c =
    sym (smbios_read-none c.args.bytes.now c.in-Err.field-0 (sym c.all_printable.ensures ∙ c.if-not-all_printable.false) (sym c.read.ensures ∙ c.in-Err.is))
