use Rattle.update_log.proofs.CrashOnce.{crash-safe}
use Rattle.update_log.proofs.laws.crash_once.Goals as goal

pub returns : goal.returns
returns g = λ c log crashed valid legal crash. crash-safe c log crashed valid legal crash
