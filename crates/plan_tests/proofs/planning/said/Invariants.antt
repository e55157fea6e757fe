use Rattle.plan_tests.proofs.planning.said.Given as goal

abbrev pub ghost-check_plan : goal.ghost-check_plan
ghost-check_plan g a = g.opening
