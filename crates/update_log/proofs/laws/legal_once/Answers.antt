use Rattle.update_log.specs.Pasts.{past_of}
use Rattle.update_log.proofs.HistoryKept.{rows-history}
use Rattle.update_log.proofs.LegalOnce.{past-kept, past-once, journals-fit}
use Rattle.update_log.proofs.laws.legal_once.Goals as goal

pub returns : goal.returns
returns g = λ c log boards valid legal fits.
    past-once c.basis (past_of log) boards (past-kept c (past_of log) valid legal)
    (rows-history c (past_of log) valid legal)
    (journals-fit c.basis c.first (past_of log) boards fits)
