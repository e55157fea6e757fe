use Rattle.client_plays.specs.Installs.{means_with}
use Rattle.client_plays.proofs.Boots.{campaign-completes}
use Rattle.client_plays.proofs.laws.campaigns_complete.Goals as goal

pub returns : goal.returns
returns g c = λ wanting campaign plugins files. campaign-completes wanting campaign (means_with g.Q.Plugin.steps plugins files)
