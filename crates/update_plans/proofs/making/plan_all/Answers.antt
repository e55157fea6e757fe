use Rattle.std.proofs.Common.{◌≡◌, ℕ, List, length, map, sym, ap, ◌∙◌, subst}
use Rattle.fw_facts.specs.declared.view.DeviceView.{DeviceView}
use Rattle.update_log.specs.Pasts.{past_of}
use Rattle.update_log.specs.Known.{basis_of}
use Rattle.update_plans.specs.Plans.{chains, device_at, scene}
use Rattle.update_plans.specs.declared.plan.PlanStep.{PlanStep}
use Rattle.update_plans.specs.Walks.{walk}
use Rattle.std.specs.Prelude.{IfOk}
use Rattle.update_plans.proofs.Taking.{plan-is}
use Rattle.update_plans.proofs.Within.{AllBelow, walk-within}
use Rattle.update_plans.proofs.making.plan_all.Goals as goal

pub plan_places-requires : goal.plan_places-requires
plan_places-requires g c =
    let walked = c.deref.ensures.value ∙ c.in_ok-places.ensures ∙ ap walk c.views.ensures in
    (c.requires.0, (subst (AllBelow (length c.args.state.now.views)) (sym walked) (walk-within c.args.state.now.views), (c.requires.1.0, c.requires.1.1)))

pub returns : goal.returns
returns g c =
    let s = scene (basis_of c.args.asker.now.facts.now g.opening) c.args.asker.now.client c.args.asker.now.tag.now in
    let before = past_of c.args.state.now.log in
    let walked = c.deref.ensures.value ∙ c.in_ok-places.ensures ∙ ap walk c.views.ensures in
    subst (λ (planned : List PlanStep). IfOk c.plan_places.result (λ steps. steps.items ≡ planned))
    (ap (λ (places : List ℕ). chains s (map (device_at c.args.state.now.views) places) 8192 1 before) walked
    ∙ ap (λ (vs : List DeviceView). chains s (map (device_at vs) (walk vs)) 8192 1 before) c.requires.1.0.views ∙ sym (plan-is s before))
    c.plan_places.ensures
