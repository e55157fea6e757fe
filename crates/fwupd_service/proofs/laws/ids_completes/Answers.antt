use Rattle.fwupd_service.proofs.PrintCompleting.{ids-complete}
use Rattle.fwupd_service.proofs.laws.ids_completes.Goals as goal

pub returns : goal.returns
returns g c = ids-complete
