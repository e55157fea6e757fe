use Rattle.log_stories.proofs.story.Story.unplug_now.Given as goal

abbrev pub ghost-append : goal.ghost-append
ghost-append a = a.self.now.basis.opening
