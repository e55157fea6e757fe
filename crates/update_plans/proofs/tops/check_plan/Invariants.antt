use Rattle.update_plans.proofs.tops.check_plan.Given as goal

abbrev pub ghost-check_all : goal.ghost-check_all
ghost-check_all g a = g.opening
