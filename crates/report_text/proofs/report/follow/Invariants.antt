use Rattle.report_text.proofs.report.follow.Given as goal

abbrev pub ghost-step : goal.ghost-step
ghost-step g a = g.opening
