use Rattle.fwupd_service.proofs.PrintCompleting.{check-complete}
use Rattle.fwupd_service.proofs.laws.check_completes.Goals as goal

pub returns : goal.returns
returns g c = check-complete
