use Rattle.client_plays.proofs.Takings.{resumption-complete}
use Rattle.client_plays.proofs.laws.resumptions_complete.Goals as goal

pub returns : goal.returns
returns g = λ c. resumption-complete c.basis
