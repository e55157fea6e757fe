use Rattle.update_plans.proofs.planner.Asker.install.Given as goal

abbrev pub ghost-put : goal.ghost-put
ghost-put g a = g.at
