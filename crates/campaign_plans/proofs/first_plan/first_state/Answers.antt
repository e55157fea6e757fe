use Rattle.std.proofs.Common.{sym, subst}
use Rattle.std.specs.Prelude.{All}
use Rattle.first_boots.specs.FirstBoot.{IsAsMade}
use Rattle.campaign_plans.proofs.FirstPlanned.{as_fresh}
use Rattle.campaign_plans.proofs.first_plan.first_state.Goals as goal

pub state_at_first_boot-requires-clause-made : goal.state_at_first_boot-requires-clause-made
state_at_first_boot-requires-clause-made c = subst (All IsAsMade) (sym c.deref.ensures.value) (as_fresh c.args.campaign.now.boards.items c.requires.begins.made)
