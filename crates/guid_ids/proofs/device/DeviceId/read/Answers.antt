use Rattle.std.proofs.Common.{◌≡◌, sym, ◌∙◌, refl, Ok, Err}
use Rattle.hex.specs.Hex.{decode_sized}
use Rattle.guid_ids.specs.Identifiers.{named_device}
use Rattle.guid_ids.proofs.device.DeviceId.read.Goals as goal

pub returns-in-Ok : goal.returns-in-Ok
unfolding named_device
returns-in-Ok c =
    let decoded : decode_sized c.args.bytes.now 20 ≡ Ok c.in-Ok.bytes = sym c.from_hex.ensures ∙ c.in-Ok.is in
    rw decoded refl

pub returns-in-Err : goal.returns-in-Err
unfolding named_device
returns-in-Err c =
    let refused : decode_sized c.args.bytes.now 20 ≡ Err c.in-Err.field-0 = sym c.from_hex.ensures ∙ c.in-Err.is in
    rw refused refl
