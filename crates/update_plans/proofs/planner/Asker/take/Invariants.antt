use Rattle.update_plans.proofs.planner.Asker.take.Given as goal

abbrev pub ghost-step : goal.ghost-step
ghost-step g a = g.at.opening
