use Rattle.std.proofs.Common.{refl, subst}
use Rattle.update_log.specs.declared.answer.PlugAnswer.{PlugAnswer}
use Rattle.update_log.specs.declared.event.Event.{Event}
use Rattle.log_stories.specs.Stories.{Grown}
use Rattle.log_stories.proofs.Asking.{unplug-rows, unplug-story}
use Rattle.log_stories.proofs.story.Story.unplug_now.Goals as goal

pub append-requires : goal.append-requires
append-requires c = (
  refl,
  (
    unplug-story c.args.self.now c.args.client c.args.device.now c.unplug_answer-answer.result c.known.ensures c.unplug_answer-answer.ensures,
    (c.requires.room, unplug-rows c.args.self.now c.args.client c.args.device.now c.unplug_answer-answer.result c.known.ensures),
  ),
)

pub returns : goal.returns
returns c =
    record {
      grown = subst (λ (a : PlugAnswer). Grown (Event.Unplug c.args.client c.args.device.now a) c.args.self.now c.append.new.self) c.unplug_answer-answer.ensures c.append.ensures.grown;
    }
