use Rattle.update_plans.proofs.Followed.{next_accepted}
use Rattle.update_plans.proofs.laws.next_is_accepted.Goals as goal

pub returns : goal.returns
returns g = λ s done step more past now. next_accepted s done step more past now
