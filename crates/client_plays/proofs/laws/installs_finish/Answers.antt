use Rattle.client_plays.specs.Installs.{means_with}
use Rattle.client_plays.proofs.Finished.{installs-finish}
use Rattle.client_plays.proofs.laws.installs_finish.Goals as goal

pub returns : goal.returns
returns g c = λ campaign plugins files. installs-finish campaign (means_with g.Q.Plugin.steps plugins files)
