use Rattle.campaign_plans.proofs.first_plan.plan_first.Given as goal

abbrev pub ghost-plan_over : goal.ghost-plan_over
ghost-plan_over a = a.state.now.rows
