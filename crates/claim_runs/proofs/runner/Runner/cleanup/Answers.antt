use Rattle.std.proofs.Common.{◌≡◌}
use Rattle.std.specs.Prelude.{None}
use Rattle.update_log.specs.Steps.{next_step}
use Rattle.device_claims.specs.declared.claim.Parts.{Parts}
use Rattle.claim_runs.proofs.Same.{on-same}
use Rattle.claim_runs.proofs.Logs.{back-none, gone-end, made-end, on-err}
use Rattle.claim_runs.proofs.runner.Runner.cleanup.Goals as goal

pub returns-in_err-claim-clause-gone : goal.returns-in_err-claim-clause-gone
returns-in_err-claim-clause-gone g c = on-err c.from_residual.result _ (back-none c.in_err-claim.ensures.gone)

pub end-requires-clause-made : goal.end-requires-clause-made
end-requires-clause-made g c =
    record {
      before = c.in_ok-claim.claim;
      runs = c.in_ok-claim.ensures.runs;
      left = c.cleanup-claim.ensures.board;
      noted = c.cleanup-claim.ensures.noted;
    }

pub returns-clause-made : goal.returns-clause-made
returns-clause-made g c =
    made-end ((goal.Plugin-dyn g c.args.plugin.now).steps c.args.plugin.now.1) c.end.result c.end.new.pass c.requires.runs.entry_is c.in_ok-claim.ensures.same c.cleanup-claim.ensures.call c.cleanup-claim.ensures.noted c.in_ok-claim.ensures.gained c.end.ensures.same c.end.ensures.gained

pub returns-clause-gone : goal.returns-clause-gone
returns-clause-gone g c = gone-end ((goal.Plugin-dyn g c.args.plugin.now).steps c.args.plugin.now.1) c.end.result c.cleanup-claim.result.1 c.cleanup-claim.result.0.board c.end.new.pass c.requires.runs.entry_is c.in_ok-claim.ensures.same c.cleanup-claim.ensures.call c.in_ok-claim.ensures.gained c.end.ensures.gone

pub returns-clause-done : goal.returns-clause-done
returns-clause-done g c = on-same c.end.result c.cleanup-claim.result.0 (λ (n : Parts). next_step n.trace ≡ None) c.end.ensures.same c.cleanup-claim.ensures.done
