use Rattle.client_plays.specs.declared.played.Played.{Played}
use Rattle.plugin_trait.specs.Steps.{steps_at}
use Rattle.install_engine.specs.Runs.{parts_taken}
use Rattle.script_runs.proofs.UpdateEnds.{back-ended, finished-ended, update-ended}
use Rattle.script_runs.proofs.installing.run_taken.Goals as goal

pub returns-in-Finished-clause-ended : goal.returns-in-Finished-clause-ended
returns-in-Finished-clause-ended g c =
    let plugins = (steps_at (λ b. (goal.Plugin-dyn g (b.vtable, b.value)).steps b.value) c.args.plugins.now) in
    let taken = c.args.taken in
    update-ended g.N.Naming.name plugins taken Played.Done c.args.pass.now c.run_claim.new.pass c.requires.runs c.requires.own
    (finished-ended g.N.Naming.name c.args.runner.now.daemon.now.id (plugins taken.plugin) taken.entry (parts_taken taken) c.args.pass.now c.run_claim.new.pass c.requires.pass c.run_claim.ensures.pass c.in-Finished.field-0 c.in-Finished.ensures.ran)

pub returns-in-Off-clause-ended : goal.returns-in-Off-clause-ended
returns-in-Off-clause-ended g c =
    let plugins = (steps_at (λ b. (goal.Plugin-dyn g (b.vtable, b.value)).steps b.value) c.args.plugins.now) in
    let taken = c.args.taken in
    update-ended g.N.Naming.name plugins taken Played.Off c.args.pass.now c.run_claim.new.pass c.requires.runs c.requires.own
    (back-ended g.N.Naming.name c.args.runner.now.daemon.now.id (plugins taken.plugin) taken.entry (parts_taken taken) c.args.pass.now c.run_claim.new.pass c.requires.pass c.run_claim.ensures.pass c.in-Off.ensures.ran)
