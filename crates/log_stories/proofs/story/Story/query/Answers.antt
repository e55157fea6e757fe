use Rattle.std.proofs.Common.{refl}
use Rattle.update_log.specs.declared.event.Event.{Event}
use Rattle.log_stories.proofs.Staying.{event-as}
use Rattle.log_stories.proofs.story.Story.query.Goals as goal

pub returns-clause-grown : goal.returns-clause-grown
returns-clause-grown c =
    event-as (λ s. Event.Query c.args.client c.args.query.now) c.args.self.now c.reserve.new.self c.query_now.new.self refl c.reserve.ensures.stayed c.query_now.ensures.grown
