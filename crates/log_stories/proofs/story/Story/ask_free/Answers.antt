use Rattle.std.proofs.Common.{refl, ap, ◌∙◌, subst}
use Rattle.std.specs.Prelude.{None}
use Rattle.log_stories.proofs.Growing.{ask-rows, ask-story}
use Rattle.log_stories.proofs.story.Story.ask_free.Goals as goal
use Rattle.update_log.specs.Legal.{ask_answer}
use Rattle.update_log.specs.declared.answer.AskAnswer.{AskAnswer}
use Rattle.update_log.specs.declared.event.Event.{Event}
use Rattle.log_stories.specs.Stories.{Grown}

pub append-requires : goal.append-requires
append-requires c = (
  refl,
  (
    ask-story c.args.self.now c.args.client c.args.request.now c.ask_answer-answer.result c.decided-decision.result c.known.ensures c.requires.free c.ask_answer-answer.ensures c.decided-decision.ensures,
    (
      c.requires.room,
      ask-rows c.args.self.now.basis c.args.self.now.core c.args.client c.args.request.now c.ask_answer-answer.result c.known.ensures.stands,
    ),
  ),
)

pub returns : goal.returns
returns c =
    record {
      grown = subst (λ (a : AskAnswer). Grown (Event.Ask c.args.client c.args.request.now None a) c.args.self.now c.append.new.self)
          (c.ask_answer-answer.ensures ∙ ap ask_answer c.decided-decision.ensures) c.append.ensures.grown;
    }
