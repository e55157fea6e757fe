use Rattle.std.proofs.Common.{refl}
use Rattle.log_stories.proofs.Asking.{asked-rows, other-story}
use Rattle.log_stories.proofs.story.Story.query_now.Goals as goal

pub append-requires : goal.append-requires
append-requires c = (
  refl,
  (
    other-story c.args.self.now c.args.client c.args.query.now c.known.ensures c.requires.other,
    (c.requires.room, asked-rows c.args.self.now c.args.client c.args.query.now c.known.ensures),
  ),
)
