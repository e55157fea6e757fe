use Rattle.update_log.specs.Pasts.{past_of}
use Rattle.update_log.proofs.HistoryKept.{rows-history}
use Rattle.update_log.proofs.laws.history_stays.Goals as goal

pub returns : goal.returns
returns g = λ c log valid legal. rows-history c (past_of log) valid legal
