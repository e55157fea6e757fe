use Rattle.requirements.proofs.FirstLemmas.{first-is}
use Rattle.requirements.specs.Requirements.{cause}
use Rattle.requirements.proofs.laws.first_that_does_not_hold.Goals as goal

pub returns : goal.returns
returns c = λ machine features views view list. first-is (cause machine features views view) list
