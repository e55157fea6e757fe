use Rattle.std.proofs.Common.{ap}
use Rattle.std.specs.Result.{result_ok}
use Rattle.guid_ids.specs.Identifiers.{named_device}
use Rattle.guid_ids.proofs.GuidLemmas.{decode_sized-encode_lower}
use Rattle.guid_ids.proofs.device.DeviceId.text.Goals as goal

pub returns-clause-reads_back : goal.returns-clause-reads_back
unfolding named_device
returns-clause-reads_back c =
    rw (c.hex_digits.ensures.digits, ← c.self.view_is) (ap result_ok (decode_sized-encode_lower 20 c.self.inside.bytes c.self.told c.hex_digits.ensures.in_range))
