use Rattle.fwupd_service.proofs.Completing.{input-told}
use Rattle.fwupd_service.proofs.laws.input_is_told.Goals as goal

pub returns : goal.returns
returns c = input-told
