use Rattle.update_plans.proofs.tops.make_plan.Given as goal

abbrev pub ghost-plan_all : goal.ghost-plan_all
ghost-plan_all g a = g.opening
