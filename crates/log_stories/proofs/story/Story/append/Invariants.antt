use Rattle.log_stories.proofs.story.Story.append.Given as goal

abbrev pub ghost-step : goal.ghost-step
ghost-step g a = g.before
