use Rattle.std.proofs.lemmas.Option.{slice_get-get_or}
use Rattle.update_plans.proofs.making.release_at.Goals as goal

pub returns : goal.returns
returns c = slice_get-get_or c.args.releases.now c.args.at _ c.requires
