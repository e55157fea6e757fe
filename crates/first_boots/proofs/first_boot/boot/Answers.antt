use Rattle.std.proofs.Common.{◌∙◌, refl, arith}
use Rattle.first_boots.proofs.FirstBoots.{boot_next, boot_rows}
use Rattle.first_boots.proofs.first_boot.boot.Goals as goal
use Rattle.update_log.specs.Known.{basis_of}

pub step-requires : goal.step-requires
step-requires c = (
  c.requires.stands,
  (
    boot_next (basis_of c.args.facts.now c.args.state.now.rows) c.args.plan.now c.args.state.now.log c.args.shown.now c.of.result c.requires.empty (c.of.ensures ∙ c.in_ok-listed.ensures) c.requires.count c.requires.made,
    (
      (let r = c.requires.room in omega (arith, r)),
      boot_rows (basis_of c.args.facts.now c.args.state.now.rows) c.args.plan.now c.args.state.now.log c.of.result c.args.state.now c.requires.empty refl c.requires.stands,
    ),
  ),
)
