use Rattle.claim_runs.proofs.Logs.{back-none, gone-end, made-end, made-here, on-err}
use Rattle.claim_runs.proofs.runner.Runner.write.Goals as goal

pub returns-then-not-may_write-clause-made : goal.returns-then-not-may_write-clause-made
returns-then-not-may_write-clause-made g c = made-here c.skip.ensures

pub returns-in_err-claim-clause-gone : goal.returns-in_err-claim-clause-gone
returns-in_err-claim-clause-gone g c = on-err c.from_residual.result _ (back-none c.in_err-claim.ensures.gone)

pub end-requires-clause-made : goal.end-requires-clause-made
end-requires-clause-made g c =
    record {
      before = c.in_ok-claim.claim;
      runs = c.in_ok-claim.ensures.runs;
      left = c.write-claim.ensures.board;
      noted = c.write-claim.ensures.noted;
    }

pub returns-clause-made : goal.returns-clause-made
returns-clause-made g c =
    made-end ((goal.Plugin-dyn g c.args.plugin.now).steps c.args.plugin.now.1) c.end.result c.end.new.pass c.requires.runs.entry_is c.in_ok-claim.ensures.same c.write-claim.ensures.call c.write-claim.ensures.noted c.in_ok-claim.ensures.gained c.end.ensures.same c.end.ensures.gained

pub returns-clause-gone : goal.returns-clause-gone
returns-clause-gone g c = gone-end ((goal.Plugin-dyn g c.args.plugin.now).steps c.args.plugin.now.1) c.end.result c.write-claim.result.1 c.write-claim.result.0.board c.end.new.pass c.requires.runs.entry_is c.in_ok-claim.ensures.same c.write-claim.ensures.call c.in_ok-claim.ensures.gained c.end.ensures.gone
