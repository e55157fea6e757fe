use Rattle.std.proofs.Common.{ap}
use Rattle.log_stories.specs.Stories.{unplug_event}
use Rattle.log_stories.proofs.Staying.{event-as}
use Rattle.log_stories.proofs.story.Story.unplug.Goals as goal

pub returns-clause-grown : goal.returns-clause-grown
returns-clause-grown c =
    let e = c.reserve.ensures.stayed in
    event-as (λ s. unplug_event s c.args.client c.args.device.now) c.args.self.now c.reserve.new.self c.unplug_now.new.self (ap (λ s. unplug_event s c.args.client c.args.device.now) e) e c.unplug_now.ensures.grown
