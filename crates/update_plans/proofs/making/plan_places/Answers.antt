use Rattle.std.proofs.Common.{◌≡◌, ◌+◌, ◌-◌, ◌++◌, ℕ, List, [], length, map, get_or, sym, ap, ◌∙◌, arith, take}
use Rattle.std.proofs.lemmas.List.{take_all}
use Rattle.update_log.specs.Pasts.{past_of}
use Rattle.update_log.specs.Known.{basis_of}
use Rattle.update_plans.specs.Plans.{after, chain, chains, device_at, scene}
use Rattle.update_plans.specs.declared.plan.PlanStep.{PlanStep}
use Rattle.update_plans.proofs.Taking.{after-nil, below-at, chains-nil, device-kept, mapped-more, places-kept, turn-after, turn-chains}
use Rattle.update_plans.proofs.making.plan_places.Goals as goal

pub plan_device-requires : goal.plan_device-requires
plan_device-requires g c =
    let s = scene (basis_of c.args.asker.now.facts.now g.opening) c.args.asker.now.client c.args.asker.now.tag.now in
    let i = c.loop-at.invariant in
    let below = below-at (length c.args.state.now.views) c.args.places.now c.loop-at.at-index c.requires.1.0 c.loop-at-test.true in
    let same = places-kept s c.args.state.now c.loop-at.state 0 c.requires.1.1.0 i.stands in
    (omega (arith, below, same), (c.requires.0, (i.few, (i.stands, i.quiet))))

pub loop-at-init : goal.loop-at-init
loop-at-init g c =
    let s = scene (basis_of c.args.asker.now.facts.now g.opening) c.args.asker.now.client c.args.asker.now.tag.now in
    let none : c.new-steps.result.items ≡ [] = c.new-steps.ensures.items in
    let few : length c.new-steps.result.items ≡ 0 = ap (λ (xs : List PlanStep). length xs) none in
    record {
      steps_are = none ∙ chains-nil s (past_of c.args.state.now.log);
      past_is = after-nil s (past_of c.args.state.now.log) ∙ ap (λ (xs : List PlanStep). after s 1 xs (past_of c.args.state.now.log)) (sym none);
      few = omega (arith, few);
      stands = c.requires.1.1.0;
      quiet = c.requires.1.1.1;
    }

pub loop-at-preserved : goal.loop-at-preserved
loop-at-preserved g c =
    let s = scene (basis_of c.args.asker.now.facts.now g.opening) c.args.asker.now.client c.args.asker.now.tag.now in
    let i = c.loop-at.invariant in
    let before = past_of c.args.state.now.log in
    let at = get_or c.args.places.now c.loop-at.at-index 0 in
    let xs = map (device_at c.args.state.now.views) (take c.loop-at.at-index c.args.places.now) in
    let same : device_at c.loop-at.state.views at ≡ device_at c.args.state.now.views at = device-kept s c.args.state.now c.loop-at.state at c.requires.1.1.0 i.stands in
    let own = chain s (device_at c.loop-at.state.views at) (8192 - length c.loop-at.steps.items) (length c.loop-at.steps.items + 1) (past_of c.loop-at.state.log) in
    let put =
    c.in_ok-plan_device.ensures.steps
    ∙ ap (λ (d : List ℕ). c.loop-at.steps.items ++ chain s d (8192 - length c.loop-at.steps.items) (length c.loop-at.steps.items + 1) (past_of c.loop-at.state.log)) same in
    record {
      steps_are =
          turn-chains s before (past_of c.loop-at.state.log) xs (device_at c.args.state.now.views at) c.loop-at.steps.items c.plan_device.new.steps.items i.steps_are i.past_is put
          ∙ ap (λ (ds : List (List ℕ)). chains s ds 8192 1 before) (sym (mapped-more (device_at c.args.state.now.views) c.args.places.now c.loop-at.at-index 0 c.loop-at-test.true));
      past_is =
          turn-after s before (past_of c.loop-at.state.log) (past_of c.plan_device.new.state.log) c.loop-at.steps.items own c.plan_device.new.steps.items i.past_is c.in_ok-plan_device.ensures.past
          c.in_ok-plan_device.ensures.steps;
      few = c.in_ok-plan_device.ensures.few_steps;
      stands = c.in_ok-plan_device.ensures.stands;
      quiet = c.in_ok-plan_device.ensures.quiet;
    }

pub returns : goal.returns
returns g c =
    let s = scene (basis_of c.args.asker.now.facts.now g.opening) c.args.asker.now.client c.args.asker.now.tag.now in
    c.loop-at.invariant.steps_are
    ∙ ap (λ (places : List ℕ). chains s (map (device_at c.args.state.now.views) places) 8192 1 (past_of c.args.state.now.log)) (take_all c.loop-at.at-index c.args.places.now (omega (arith, c.loop-at-test.false)))
