use Rattle.std.proofs.Common.{◌+◌, List, inr, refl, sym, ap, ◌∙◌, subst, arith}
use Rattle.std.proofs.Math.ListN.{drop_of_length-le}
use Rattle.update_log.specs.Pasts.{past_of}
use Rattle.update_log.specs.Known.{basis_of}
use Rattle.update_plans.specs.Following.{IsQuiet}
use Rattle.update_plans.specs.Plans.{first_bad, scene}
use Rattle.update_plans.specs.declared.plan.PlanStep.{PlanStep}
use Rattle.update_plans.proofs.Chained.{first_bad-nil, quiet-on}
use Rattle.update_plans.proofs.Taking.{bad-got, good-got}
use Rattle.update_plans.proofs.making.check_all.Goals as goal

pub install-requires : goal.install-requires
install-requires g c =
    let i = c.loop-index.invariant in
    (c.requires.0, (omega (arith, c.loop-index-test.true, c.requires.1.0), (refl, (refl, (i.stands, (i.quiet, (sym (c.is_good.ensures g.opening i.stands i.quiet) ∙ c.if-not-is_good.false)))))))

pub loop-index-preserved : goal.loop-index-preserved
loop-index-preserved g c =
    let s = scene (basis_of c.args.asker.now.facts.now g.opening) c.args.asker.now.client c.args.asker.now.tag.now in
    let i = c.loop-index.invariant in
    let good = sym (c.is_good.ensures g.opening i.stands i.quiet) ∙ c.if-not-is_good.false in
    record {
      so_far =
          sym (good-got s c.args.steps.now c.loop-index.index c.step_at-step.result (past_of c.loop-index.state.log) (past_of c.install.new.state.log) c.step_at-step.ensures good c.in_ok-install.ensures.past)
          ∙ i.so_far;
      stands = c.in_ok-install.ensures.stands;
      quiet = subst (IsQuiet s) (sym c.in_ok-install.ensures.past) (quiet-on s (c.loop-index.index + 1) c.step_at-step.result (past_of c.loop-index.state.log) i.quiet good);
    }

pub returns-then-not-is_good : goal.returns-then-not-is_good
returns-then-not-is_good g c =
    let s = scene (basis_of c.args.asker.now.facts.now g.opening) c.args.asker.now.client c.args.asker.now.tag.now in
    let i = c.loop-index.invariant in
    let bad = sym (c.is_good.ensures g.opening i.stands i.quiet) ∙ c.if-not-is_good.true in
    inr (c.loop-index.index + 1, refl, sym i.so_far ∙ bad-got s c.args.steps.now c.loop-index.index c.step_at-step.result (past_of c.loop-index.state.log) c.step_at-step.ensures bad)

pub returns : goal.returns
returns g c =
    let s = scene (basis_of c.args.asker.now.facts.now g.opening) c.args.asker.now.client c.args.asker.now.tag.now in
    sym c.loop-index.invariant.so_far
    ∙ ap (λ (steps : List PlanStep). first_bad s (c.loop-index.index + 1) steps (past_of c.loop-index.state.log)) (drop_of_length-le c.args.steps.now {i = c.loop-index.index} (omega (arith, c.loop-index-test.false)))
    ∙ first_bad-nil s (c.loop-index.index + 1) (past_of c.loop-index.state.log)
