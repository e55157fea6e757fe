use Rattle.update_plans.proofs.planner.Asker.make.Given as goal

abbrev pub ghost-step : goal.ghost-step
ghost-step g a = g.at.opening
