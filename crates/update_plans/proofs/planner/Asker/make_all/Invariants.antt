use Rattle.update_plans.specs.Putting.{ops_before}
use Rattle.update_plans.proofs.planner.Asker.make_all.Given as goal

abbrev pub ghost-make : goal.ghost-make
ghost-make g a = record g.at { gone = ops_before a.op }
