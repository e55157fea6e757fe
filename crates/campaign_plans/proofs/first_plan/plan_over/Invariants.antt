use Rattle.campaign_plans.proofs.first_plan.plan_over.Given as goal

abbrev pub ghost-make_plan : goal.ghost-make_plan
ghost-make_plan g a = g.opening
