use Rattle.daemon_core.proofs.house_log.HouseLog.append.Given as goal

abbrev pub ghost-step : goal.ghost-step
ghost-step g a = g.before
