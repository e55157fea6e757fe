use Rattle.std.proofs.Common.{length, refl, sym, ◌∙◌}
use Rattle.std.proofs.lemmas.Option.{slice_get_read}
use Rattle.requirements.proofs.FirstLemmas.{unmet_at-first}
use Rattle.requirements.specs.Requirements.{cause}
use Rattle.requirements.proofs.first.first_unmet_of.Goals as goal

pub returns : goal.returns
returns c =
    unmet_at-first (cause c.args.machine.now c.args.features.now c.args.views.now c.args.view.now) c.args.list.now
    c.in_ok-at.at c.index-list-at.result c.in_ok-cause.cause
    (sym c.place_of_unmet.ensures.first ∙ c.in_ok-at.was)
    (slice_get_read c.args.list.now (length c.args.list.now) c.in_ok-at.at c.index-list-at.result refl c.in_ok-at.ensures.within c.index-list-at.is)
    (sym c.cause.ensures ∙ c.in_ok-cause.was)
