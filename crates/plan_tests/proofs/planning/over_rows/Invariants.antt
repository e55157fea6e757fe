use Rattle.plan_tests.proofs.planning.over_rows.Given as goal

abbrev pub ghost-said : goal.ghost-said
ghost-said a = a.state.now.rows
