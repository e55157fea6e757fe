use Rattle.history_keeper.specs.Signs.{signs_of}
use Rattle.fwupd_service.proofs.PlanCompleting.{plan-complete}
use Rattle.fwupd_service.proofs.laws.plan_completes.Goals as goal

pub returns : goal.returns
returns g c = plan-complete (signs_of g.K.Keeper.tells g.K.Keeper.doubt g.K.Keeper.faults)
