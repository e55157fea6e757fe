use Rattle.claim_runs.proofs.Logs.{back-none, gone-end, made-end, on-err}
use Rattle.claim_runs.proofs.runner.Runner.prepare.Goals as goal

pub returns-in_err-claim-clause-gone : goal.returns-in_err-claim-clause-gone
returns-in_err-claim-clause-gone g c = on-err c.from_residual.result _ (back-none c.in_err-claim.ensures.gone)

pub end-requires-clause-made : goal.end-requires-clause-made
end-requires-clause-made g c =
    record {
      before = c.in_ok-claim.claim;
      runs = c.in_ok-claim.ensures.runs;
      left = c.prepare-claim.ensures.board;
      noted = c.prepare-claim.ensures.noted;
    }

pub returns-clause-made : goal.returns-clause-made
returns-clause-made g c =
    made-end ((goal.Plugin-dyn g c.args.plugin.now).steps c.args.plugin.now.1) c.end.result c.end.new.pass c.requires.runs.entry_is c.in_ok-claim.ensures.same c.prepare-claim.ensures.call c.prepare-claim.ensures.noted c.in_ok-claim.ensures.gained c.end.ensures.same c.end.ensures.gained

pub returns-clause-gone : goal.returns-clause-gone
returns-clause-gone g c = gone-end ((goal.Plugin-dyn g c.args.plugin.now).steps c.args.plugin.now.1) c.end.result c.prepare-claim.result.1 c.prepare-claim.result.0.board c.end.new.pass c.requires.runs.entry_is c.in_ok-claim.ensures.same c.prepare-claim.ensures.call c.in_ok-claim.ensures.gained c.end.ensures.gone
