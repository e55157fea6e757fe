use Rattle.first_boots.proofs.first_boot.boot.Given as goal

abbrev pub ghost-step : goal.ghost-step
ghost-step a = a.state.now.rows
