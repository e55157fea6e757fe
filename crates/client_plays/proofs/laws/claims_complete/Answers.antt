use Rattle.client_plays.proofs.Takings.{claim-complete}
use Rattle.client_plays.proofs.laws.claims_complete.Goals as goal

pub returns : goal.returns
returns g = λ c. claim-complete c.basis
