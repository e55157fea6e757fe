use Rattle.std.specs.Prelude.{[]}
use Rattle.update_log.specs.Pasts.{past_of}
use Rattle.update_plans.proofs.making.take_step.Given as goal

abbrev pub ghost-install : goal.ghost-install
ghost-install g a = record { opening = g.opening; number = a.number; before = past_of a.state.now.log; gone = [] }
