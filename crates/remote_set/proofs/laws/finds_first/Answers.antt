use Rattle.remote_set.proofs.Finds.{finds_first_one}
use Rattle.remote_set.proofs.laws.finds_first.Goals as goal

pub returns : goal.returns
returns c = finds_first_one
