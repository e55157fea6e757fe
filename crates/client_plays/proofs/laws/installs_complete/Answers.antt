use Rattle.client_plays.proofs.Asked.{install-complete}
use Rattle.client_plays.proofs.laws.installs_complete.Goals as goal

pub returns : goal.returns
returns g = install-complete
