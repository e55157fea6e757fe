use Rattle.update_log.proofs.LinksKept.{failed-stays}
use Rattle.update_log.proofs.laws.failed_stays.Goals as goal

pub returns : goal.returns
returns g = λ c log later entry row valid legal is failed. failed-stays c log later entry row valid legal is failed
