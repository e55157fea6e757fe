use Rattle.remote_set.proofs.Firsts.{first_wins}
use Rattle.remote_set.proofs.laws.first_remote_wins.Goals as goal

pub returns : goal.returns
returns c = first_wins
