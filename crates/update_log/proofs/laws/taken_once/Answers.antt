use Rattle.update_log.specs.Pasts.{past_of}
use Rattle.update_log.proofs.LegalOnce.{taken-once}
use Rattle.update_log.proofs.laws.taken_once.Goals as goal

pub returns : goal.returns
returns g = λ c log valid legal. taken-once c (past_of log) valid legal
