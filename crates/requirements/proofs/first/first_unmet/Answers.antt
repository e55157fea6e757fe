use Rattle.std.proofs.Common.{length, refl}
use Rattle.std.proofs.lemmas.Option.{slice_get_read}
use Rattle.requirements.specs.Requirements.{first_unmet}
use Rattle.requirements.proofs.first.first_unmet.Goals as goal

pub returns : goal.returns
unfolding first_unmet
returns c =
    let here = slice_get_read c.args.views.now (length c.args.views.now) c.args.device c.index-views-device.result refl c.requires.in_list c.index-views-device.is in
    rw here c.first_unmet_of.ensures
