use Rattle.fwupd_service.proofs.PrintCompleting.{remotes-complete}
use Rattle.fwupd_service.proofs.laws.remotes_completes.Goals as goal

pub returns : goal.returns
returns g c = remotes-complete
