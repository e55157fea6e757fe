use Rattle.log_stories.proofs.Growing.{story-roomier}
use Rattle.log_stories.proofs.story.Story.reserve.Goals as goal
use Rattle.update_log.specs.Known.{basis_of}

pub invariant_of-self : goal.invariant_of-self
invariant_of-self c = story-roomier (basis_of c.self.inside.facts c.self.inside.opening.items) c.self.inside.state c.reserve.new.self c.reserve.ensures.same c.self.invariant
