use Rattle.remote_set.proofs.Finds.{finds_unhidden_one}
use Rattle.remote_set.proofs.laws.finds_unhidden.Goals as goal

pub returns : goal.returns
returns c = finds_unhidden_one
