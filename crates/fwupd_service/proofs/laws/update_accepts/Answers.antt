use Rattle.fwupd_service.proofs.PlanAccepting.{update-accepts}
use Rattle.fwupd_service.proofs.laws.update_accepts.Goals as goal

pub returns : goal.returns
returns c = update-accepts c.next_is_accepted.ensures
