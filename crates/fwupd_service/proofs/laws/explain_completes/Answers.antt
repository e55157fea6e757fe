use Rattle.fwupd_service.proofs.PrintCompleting.{explain-complete}
use Rattle.fwupd_service.proofs.laws.explain_completes.Goals as goal

pub returns : goal.returns
returns g c = explain-complete
