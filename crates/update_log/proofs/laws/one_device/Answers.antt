use Rattle.update_log.proofs.Devices.{one-device}
use Rattle.update_log.proofs.laws.one_device.Goals as goal

pub returns : goal.returns
returns c = λ facts. one-device facts
