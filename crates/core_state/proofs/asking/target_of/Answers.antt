use Rattle.core_state.proofs.CoreTargets.{home-by}
use Rattle.core_state.proofs.asking.target_of.Goals as goal

pub returns-clause-home : goal.returns-clause-home
returns-clause-home c = home-by _ c.args.facts.now c.views.result.now c.args.request.now.version c.in_ok-place.place c.target_at.result c.target_at.ensures.exact
