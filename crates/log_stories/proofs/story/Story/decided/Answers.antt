use Rattle.std.proofs.Common.{ap, ◌∙◌}
use Rattle.log_stories.specs.Stories.{StoryTold, past}
use Rattle.update_log.specs.Verdicts.{verdict}
use Rattle.log_stories.proofs.story.Story.decided.Goals as goal

pub returns : goal.returns
returns c =
    c.verdict.ensures c.self.inside.opening.items c.self.invariant.stands
    ∙ ap (λ (s : StoryTold). verdict s.basis (past s) c.args.client c.args.request.now c.args.stage) c.self.view_is
