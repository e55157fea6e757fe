use Rattle.std.proofs.Common.{List, ℕ, ap, subst, ◌∙◌}
use Rattle.outer_traits.specs.Sinks.{Took}
use Rattle.fw_facts.specs.declared.view.DeviceView.{DeviceView}
use Rattle.update_plans.specs.declared.plan.PlanStep.{PlanStep}
use Rattle.campaign_plans.specs.Printed.{plan_text}
use Rattle.fwupd_service.proofs.planning.print_first.Goals as goal

pub returns-in-Ok-clause-printed : goal.returns-in-Ok-clause-printed
returns-in-Ok-clause-printed g c =
    subst (λ (text : List ℕ). Took text (g.T.Sink.taken c.args.out.now) (g.T.Sink.taken c.write_plan.new.out))
    (ap (λ (seen : List DeviceView). plan_text c.args.campaign.now.facts seen c.items.result.now) c.views-views.ensures
    ∙ ap (λ (steps : List PlanStep). plan_text c.args.campaign.now.facts c.args.first.now.state.views steps) c.items.ensures)
    (rw c.in-Ok.is at c.write_plan.ensures.whole)
