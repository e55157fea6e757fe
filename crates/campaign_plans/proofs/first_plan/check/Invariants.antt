use Rattle.campaign_plans.proofs.first_plan.check.Given as goal

abbrev pub ghost-check_plan : goal.ghost-check_plan
ghost-check_plan g a = g.opening
