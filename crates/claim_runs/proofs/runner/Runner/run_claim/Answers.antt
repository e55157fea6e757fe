use Rattle.std.proofs.Common.{ap, refl, sym, subst, ◌∙◌}
use Rattle.std.specs.Prelude.{None}
use Rattle.device_claims.specs.declared.claim.Parts.{Parts}
use Rattle.claim_runs.specs.Known.{RunsFor}
use Rattle.plugin_trait.proofs.PlacesAt.{steps-at}
use Rattle.install_engine.specs.Runs.{parts_taken}
use Rattle.claim_runs.specs.declared.outcome.Outcome.{Outcome}
use Rattle.claim_runs.proofs.Logs.{ran-after, ran-at}
use Rattle.claim_runs.proofs.runner.Runner.run_claim.Goals as goal

pub make_steps-requires-clause-runs : goal.make_steps-requires-clause-runs
make_steps-requires-clause-runs g c =
    subst (λ (q : Parts). RunsFor g.N.Naming.name c.args.taken.entry None c.args.pass.now q) (sym c.new-claim.ensures.parts) (record { entry_is = refl; seen_so = c.requires.runs })

pub returns-in-Ok-clause-ran : goal.returns-in-Ok-clause-ran
returns-in-Ok-clause-ran g c =
    let b = c.index-plugins-plugin.result in
    ran-at _ _ c.args.taken.entry c.finish.result c.new-claim.result (parts_taken c.args.taken) c.args.pass.now c.finish.new.pass
    (steps-at (λ d. (goal.Plugin-dyn g (d.vtable, d.value)).steps d.value) c.args.plugins.now c.args.taken.plugin b c.requires.served c.index-plugins-plugin.is ∙ sym (ap (λ v. (goal.Plugin-dyn g v).steps v.1) c.deref_box-1.ensures.1)) c.new-claim.ensures.parts
    (ran-after c.finish.result c.finish.new.pass c.in-Ok.ensures.made c.finish.ensures.closed)

pub returns-in-Err-clause-ran : goal.returns-in-Err-clause-ran
returns-in-Err-clause-ran g c =
    let b = c.index-plugins-plugin.result in
    ran-at _ _ c.args.taken.entry Outcome.Off c.new-claim.result (parts_taken c.args.taken) c.args.pass.now c.make_steps.new.pass
    (steps-at (λ d. (goal.Plugin-dyn g (d.vtable, d.value)).steps d.value) c.args.plugins.now c.args.taken.plugin b c.requires.served c.index-plugins-plugin.is ∙ sym (ap (λ v. (goal.Plugin-dyn g v).steps v.1) c.deref_box-1.ensures.1)) c.new-claim.ensures.parts
    c.in-Err.ensures.gone
