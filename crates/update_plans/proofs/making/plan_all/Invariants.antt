use Rattle.update_plans.proofs.making.plan_all.Given as goal

abbrev pub ghost-plan_places : goal.ghost-plan_places
ghost-plan_places g a = g.opening
