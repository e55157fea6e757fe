use Rattle.campaign_plans.proofs.first_plan.plan_checked.Given as goal

abbrev pub ghost-check : goal.ghost-check
ghost-check a = a.first.now.state.rows
