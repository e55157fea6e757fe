use Rattle.std.proofs.Common.{◌≡◌, ◌+◌, ◌-◌, ◌++◌, ℕ, List, [], ◌∷◌, length, sym, ap, ◌∙◌, subst, arith, length-append}
use Rattle.std.specs.Prelude.{slice_get, IfSome, Option, None, Some}
use Rattle.fw_facts.specs.declared.view.DeviceView.{DeviceView}
use Rattle.fw_facts.specs.Views.{guids_of}
use Rattle.release_catalogue.specs.declared.reference.ReleaseRef.{ReleaseRef}
use Rattle.update_log.specs.Pasts.{past_of}
use Rattle.update_log.specs.Known.{basis_of}
use Rattle.update_plans.specs.Choosing.{IsHighestFirst}
use Rattle.update_plans.specs.Following.{IsQuiet}
use Rattle.update_plans.specs.Plans.{after, chain, device_at, next_step, scene}
use Rattle.update_plans.specs.declared.plan.PlanStep.{PlanStep}
use Rattle.update_plans.proofs.Chained.{goes-first, quiet-on}
use Rattle.update_plans.proofs.Planned.{next-good}
use Rattle.update_plans.proofs.Taking.{device-kept, ends-full, ends-none, places-kept, turn-goes}
use Rattle.update_plans.proofs.making.plan_device.Goals as goal

pub next_step-requires : goal.next_step-requires
next_step-requires g c =
    let s = scene (basis_of c.args.asker.now.facts.now g.opening) c.args.asker.now.client c.args.asker.now.tag.now in
    let i = c.loop-taken.invariant in
    let same = places-kept s c.args.state.now c.loop-taken.state c.args.at c.requires.1.1.1.0 i.stands in
    record {
      place = omega (arith, same, c.requires.0);
      tag = c.requires.1.0;
      number = omega (arith, c.loop-taken-test.true);
      releases =
          subst (λ (places : List ReleaseRef). IfSome (slice_get c.loop-taken.state.views c.args.at) (λ view. IsHighestFirst s.basis.facts (guids_of view) places)) (sym c.deref.ensures.value) i.sorted;
    }

pub take_step-requires : goal.take_step-requires
take_step-requires g c =
    let s = scene (basis_of c.args.asker.now.facts.now g.opening) c.args.asker.now.client c.args.asker.now.tag.now in
    let i = c.loop-taken.invariant in
    let same = places-kept s c.args.state.now c.loop-taken.state c.args.at c.requires.1.1.1.0 i.stands in
    (omega (arith, same, c.requires.0), (c.requires.1.0, (omega (arith, c.loop-taken-test.true), (i.stands, (i.quiet, (next-good s (c.loop-taken.taken + 1) (device_at c.loop-taken.state.views c.args.at) (past_of c.loop-taken.state.log) c.in-Some.step (sym (c.in-Some.ensures g.opening i.stands i.quiet)), (i.sorted)))))))

pub loop-taken-init : goal.loop-taken-init
loop-taken-init g c =
    let s = scene (basis_of c.args.asker.now.facts.now g.opening) c.args.asker.now.client c.args.asker.now.tag.now in
    record {
      goes = goes-first s (device_at c.args.state.now.views c.args.at) c.args.steps.now.items (past_of c.args.state.now.log);
      taken = omega (arith, c.args.steps.now.ok.0);
      stands = c.requires.1.1.1.0;
      quiet = c.requires.1.1.1.1;
      sorted = subst (λ (o : Option DeviceView). IfSome o (λ view. IsHighestFirst s.basis.facts (guids_of view) c.in_ok-releases.releases.items)) (sym c.device.ensures) c.in_ok-releases.ensures;
    }

pub loop-taken-preserved : goal.loop-taken-preserved
loop-taken-preserved g c =
    let s = scene (basis_of c.args.asker.now.facts.now g.opening) c.args.asker.now.client c.args.asker.now.tag.now in
    let i = c.loop-taken.invariant in
    let device = device_at c.args.state.now.views c.args.at in
    let own = chain s device (8192 - length c.args.steps.now.items) (length c.args.steps.now.items + 1) (past_of c.args.state.now.log) in
    let next : next_step s (c.loop-taken.taken + 1) device (past_of c.loop-taken.state.log) ≡ Some c.in-Some.step =
    ap (λ (d : List ℕ). next_step s (c.loop-taken.taken + 1) d (past_of c.loop-taken.state.log)) (sym (device-kept s c.args.state.now c.loop-taken.state c.args.at c.requires.1.1.1.0 i.stands))
    ∙ sym (c.in-Some.ensures g.opening i.stands i.quiet) in
    let longer = ap (λ (xs : List PlanStep). length xs) c.in_ok-releases-in-Some.ensures.steps ∙ length-append c.loop-taken.steps.items (c.in-Some.step ∷ []) in
    record {
      goes =
          turn-goes s device c.loop-taken.steps.items c.take_step.new.steps.items (c.args.steps.now.items ++ own) (past_of c.loop-taken.state.log) (past_of c.take_step.new.state.log)
          (after s (length c.args.steps.now.items + 1) own (past_of c.args.state.now.log)) c.in-Some.step (c.loop-taken.taken + 1) (omega (arith, i.taken, c.loop-taken-test.true)) (omega (arith, i.taken)) next
          c.in_ok-releases-in-Some.ensures.steps c.in_ok-releases-in-Some.ensures.past i.goes;
      taken = omega (arith, longer, i.taken);
      stands = c.in_ok-releases-in-Some.ensures.stands;
      quiet =
          subst (IsQuiet s) (sym c.in_ok-releases-in-Some.ensures.past)
          (quiet-on s (c.loop-taken.taken + 1) c.in-Some.step (past_of c.loop-taken.state.log) i.quiet (next-good s (c.loop-taken.taken + 1) device (past_of c.loop-taken.state.log) c.in-Some.step next));
      sorted = c.in_ok-releases-in-Some.ensures.releases;
    }

pub returns-in-None-clause-steps : goal.returns-in-None-clause-steps
returns-in-None-clause-steps g c =
    let s = scene (basis_of c.args.asker.now.facts.now g.opening) c.args.asker.now.client c.args.asker.now.tag.now in
    let i = c.loop-taken.invariant in
    let device = device_at c.args.state.now.views c.args.at in
    let own = chain s device (8192 - length c.args.steps.now.items) (length c.args.steps.now.items + 1) (past_of c.args.state.now.log) in
    let none : next_step s (c.loop-taken.taken + 1) device (past_of c.loop-taken.state.log) ≡ None =
    ap (λ (d : List ℕ). next_step s (c.loop-taken.taken + 1) d (past_of c.loop-taken.state.log)) (sym (device-kept s c.args.state.now c.loop-taken.state c.args.at c.requires.1.1.1.0 i.stands))
    ∙ sym (c.in-None.ensures g.opening i.stands i.quiet) in
    let ends =
    ends-none s device c.loop-taken.steps.items (c.args.steps.now.items ++ own) (past_of c.loop-taken.state.log) (after s (length c.args.steps.now.items + 1) own (past_of c.args.state.now.log)) (c.loop-taken.taken + 1)
    (omega (arith, i.taken)) none i.goes in
    ends.0

pub returns-in-None-clause-past : goal.returns-in-None-clause-past
returns-in-None-clause-past g c =
    let s = scene (basis_of c.args.asker.now.facts.now g.opening) c.args.asker.now.client c.args.asker.now.tag.now in
    let i = c.loop-taken.invariant in
    let device = device_at c.args.state.now.views c.args.at in
    let own = chain s device (8192 - length c.args.steps.now.items) (length c.args.steps.now.items + 1) (past_of c.args.state.now.log) in
    let none : next_step s (c.loop-taken.taken + 1) device (past_of c.loop-taken.state.log) ≡ None =
    ap (λ (d : List ℕ). next_step s (c.loop-taken.taken + 1) d (past_of c.loop-taken.state.log)) (sym (device-kept s c.args.state.now c.loop-taken.state c.args.at c.requires.1.1.1.0 i.stands))
    ∙ sym (c.in-None.ensures g.opening i.stands i.quiet) in
    let ends =
    ends-none s device c.loop-taken.steps.items (c.args.steps.now.items ++ own) (past_of c.loop-taken.state.log) (after s (length c.args.steps.now.items + 1) own (past_of c.args.state.now.log)) (c.loop-taken.taken + 1)
    (omega (arith, i.taken)) none i.goes in
    ends.1

pub returns-clause-steps : goal.returns-clause-steps
returns-clause-steps g c =
    let s = scene (basis_of c.args.asker.now.facts.now g.opening) c.args.asker.now.client c.args.asker.now.tag.now in
    let i = c.loop-taken.invariant in
    let device = device_at c.args.state.now.views c.args.at in
    let own = chain s device (8192 - length c.args.steps.now.items) (length c.args.steps.now.items + 1) (past_of c.args.state.now.log) in
    let ends =
    ends-full s device c.loop-taken.steps.items (c.args.steps.now.items ++ own) (past_of c.loop-taken.state.log) (after s (length c.args.steps.now.items + 1) own (past_of c.args.state.now.log))
    (omega (arith, i.taken, c.loop-taken-test.false)) i.goes in
    ends.0

pub returns-clause-past : goal.returns-clause-past
returns-clause-past g c =
    let s = scene (basis_of c.args.asker.now.facts.now g.opening) c.args.asker.now.client c.args.asker.now.tag.now in
    let i = c.loop-taken.invariant in
    let device = device_at c.args.state.now.views c.args.at in
    let own = chain s device (8192 - length c.args.steps.now.items) (length c.args.steps.now.items + 1) (past_of c.args.state.now.log) in
    let ends =
    ends-full s device c.loop-taken.steps.items (c.args.steps.now.items ++ own) (past_of c.loop-taken.state.log) (after s (length c.args.steps.now.items + 1) own (past_of c.args.state.now.log))
    (omega (arith, i.taken, c.loop-taken-test.false)) i.goes in
    ends.1
