use Rattle.claim_runs.proofs.Logs.{back-on, gone-after, made-after, made-on, on-err}
use Rattle.claim_runs.proofs.runner.Runner.make_steps.Goals as goal

pub returns-in_err-ready-clause-gone : goal.returns-in_err-ready-clause-gone
returns-in_err-ready-clause-gone g c = on-err c.from_residual.result _ c.in_err-ready.ensures.gone

pub returns-in_err-loose-clause-gone : goal.returns-in_err-loose-clause-gone
returns-in_err-loose-clause-gone g c = on-err c.from_residual-in_err-loose.result _ (back-on c.in_ok-ready.ensures.made c.in_err-loose.ensures.gone)

pub returns-in_err-flashed-clause-gone : goal.returns-in_err-flashed-clause-gone
returns-in_err-flashed-clause-gone g c = on-err c.from_residual-in_err-flashed.result _ (back-on c.in_ok-ready.ensures.made (back-on c.in_ok-loose.ensures.made c.in_err-flashed.ensures.gone))

pub returns-in_err-joined-clause-gone : goal.returns-in_err-joined-clause-gone
returns-in_err-joined-clause-gone g c = on-err c.from_residual-in_err-joined.result _ (back-on c.in_ok-ready.ensures.made (back-on c.in_ok-loose.ensures.made (back-on c.in_ok-flashed.ensures.made c.in_err-joined.ensures.gone)))

pub returns-in_err-reloaded-clause-gone : goal.returns-in_err-reloaded-clause-gone
returns-in_err-reloaded-clause-gone g c = on-err c.from_residual-in_err-reloaded.result _ (back-on c.in_ok-ready.ensures.made (back-on c.in_ok-loose.ensures.made (back-on c.in_ok-flashed.ensures.made (back-on c.in_ok-joined.ensures.made c.in_err-reloaded.ensures.gone))))

pub returns-clause-made : goal.returns-clause-made
returns-clause-made g c =
    made-after c.cleanup.result c.cleanup.new.pass (made-on (made-on (made-on (made-on c.in_ok-ready.ensures.made c.in_ok-loose.ensures.made) c.in_ok-flashed.ensures.made) c.in_ok-joined.ensures.made) c.in_ok-reloaded.ensures.made) c.cleanup.ensures.made

pub returns-clause-gone : goal.returns-clause-gone
returns-clause-gone g c =
    gone-after c.cleanup.result c.cleanup.new.pass (made-on (made-on (made-on (made-on c.in_ok-ready.ensures.made c.in_ok-loose.ensures.made) c.in_ok-flashed.ensures.made) c.in_ok-joined.ensures.made) c.in_ok-reloaded.ensures.made) c.cleanup.ensures.gone
