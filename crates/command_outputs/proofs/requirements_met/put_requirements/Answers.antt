use Rattle.std.proofs.Common.{◌<◌, List, ℕ, length, take, ap, ◌∙◌, arith}
use Rattle.requirements.specs.Requirements.{cause}
use Rattle.update_log.specs.Verdicts.{features_for}
use Rattle.command_outputs.proofs.RequirementLines.{put_more}
use Rattle.command_outputs.proofs.requirements_met.put_requirements.Goals as goal

pub loop-index-preserved : goal.loop-index-preserved
loop-index-preserved c =
    let lt : c.loop-index.index < length c.args.requirements.now = omega arith in
    put_more (cause c.args.facts.now.machine (features_for c.args.facts.now 1) c.args.views.now c.args.view.now) c.loop-index.index c.args.requirements.now _
    c.cause_of_one-unmet.result c.loop-index.out.items _ c.put_requirement.new.out.items lt
    (c.split_at-in-loop-index.ensures.front ∙ ap (take 1) c.split_at.ensures.back) c.loop-index.invariant
    (λ r h. c.cause_of_one-unmet.ensures r h ∙ ap (λ (features : List (List ℕ)). cause c.args.facts.now.machine features c.args.views.now c.args.view.now r) c.features-features.ensures)
    c.in_ok-put_requirement.ensures
