use Rattle.std.proofs.Common.{refl}
use Rattle.update_log.specs.declared.event.Query.{Query}
use Rattle.log_stories.proofs.Asking.{asked-rows, settle-story}
use Rattle.log_stories.proofs.story.Story.settle_now.Goals as goal

pub append-requires : goal.append-requires
append-requires c = (
  refl,
  (
    settle-story c.args.self.now c.args.client c.args.device.now c.known.ensures c.requires.none,
    (c.requires.room, asked-rows c.args.self.now c.args.client (Query.Settle c.args.device.now) c.known.ensures),
  ),
)
