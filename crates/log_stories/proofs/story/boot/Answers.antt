use Rattle.std.proofs.Common.{◌∙◌, arith}
use Rattle.log_stories.proofs.Booting.{boot-rows, runs-after, runs-booted}
use Rattle.log_stories.proofs.story.boot.Goals as goal
use Rattle.update_log.specs.Known.{basis_of}

pub step-requires : goal.step-requires
step-requires c = (
  c.requires.stands,
  (
    runs-booted (basis_of c.args.facts.now c.args.state.now.rows) c.args.state.now.log c.of.result c.args.raws.now c.requires.each c.requires.empty (c.of.ensures ∙ c.requires.shown),
    (
      (let r = c.requires.room in omega (arith, r)),
      boot-rows (basis_of c.args.facts.now c.args.state.now.rows) c.args.state.now c.of.result c.requires.stands c.requires.empty,
    ),
  ),
)

pub returns-clause-runs : goal.returns-clause-runs
returns-clause-runs c = runs-after (basis_of c.args.facts.now c.args.state.now.rows) c.args.state.now.log c.step.new.state.log c.of.result c.args.raws.now c.requires.each c.requires.empty (c.of.ensures ∙ c.requires.shown) c.step.ensures.log
