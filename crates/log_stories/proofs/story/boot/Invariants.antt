use Rattle.log_stories.proofs.story.boot.Given as goal

abbrev pub ghost-step : goal.ghost-step
ghost-step a = a.state.now.rows
