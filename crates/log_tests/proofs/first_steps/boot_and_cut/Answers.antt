use Rattle.std.proofs.Common.{◌∙◌, arith}
use Rattle.core_state.proofs.FirstSteps.{boot-next, boot-rows, cut-next, cut-rows}
use Rattle.log_tests.proofs.first_steps.boot_and_cut.Goals as goal

pub step-requires : goal.step-requires
step-requires c = (
  c.requires.stands,
  (
    boot-next c.args.facts.now c.args.state.now.log c.of.result c.requires.no_boards c.requires.empty (c.of.ensures ∙ c.requires.none_listed),
    (
      (let r = c.requires.room in omega (arith, r)),
      boot-rows c.args.facts.now c.args.state.now.log c.of.result _ c.requires.empty,
    ),
  ),
)

pub step-requires-2 : goal.step-requires-2
step-requires-2 c = (
  c.step.ensures.stands,
  (
    cut-next c.args.facts.now c.args.state.now.log c.step.new.state.log c.of.result c.requires.no_boards c.requires.empty (c.of.ensures ∙ c.requires.none_listed) c.step.ensures.log,
    (
      (let r = c.requires.room in let s = c.step.ensures.room in omega (arith, r, s)),
      cut-rows c.args.facts.now c.args.state.now.log c.step.new.state.log c.of.result _ c.requires.empty c.step.ensures.log,
    ),
  ),
)
