use Rattle.client_plays.proofs.FirstNamed.{first-named}
use Rattle.client_plays.proofs.laws.first_is_named.Goals as goal

pub returns : goal.returns
returns c = λ case refusal. first-named case refusal
