use Rattle.report_text.proofs.report.write_over.Given as goal

abbrev pub ghost-state_over : goal.ghost-state_over
ghost-state_over g a = g.opening

abbrev pub ghost-write_events : goal.ghost-write_events
ghost-write_events g a = g.opening
