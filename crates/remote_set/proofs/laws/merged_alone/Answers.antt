use Rattle.remote_set.proofs.Alone.{alone}
use Rattle.remote_set.proofs.laws.merged_alone.Goals as goal

pub returns : goal.returns
returns c = alone
