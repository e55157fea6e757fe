use Rattle.update_plans.proofs.planner.Asker.put.Given as goal

abbrev pub ghost-take : goal.ghost-take
ghost-take g a = g.at

abbrev pub ghost-make_all : goal.ghost-make_all
ghost-make_all g a = g.at

abbrev pub ghost-finish : goal.ghost-finish
ghost-finish g a = g.at
