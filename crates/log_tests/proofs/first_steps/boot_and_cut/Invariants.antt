use Rattle.std.proofs.Common.{[]}
use Rattle.log_tests.proofs.first_steps.boot_and_cut.Given as goal

abbrev pub ghost-step : goal.ghost-step
ghost-step a = []
