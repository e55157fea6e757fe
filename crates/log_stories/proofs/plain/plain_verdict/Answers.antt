use Rattle.std.proofs.Common.{◌∙◌}
use Rattle.log_stories.proofs.Plainly.{plain-verdict}
use Rattle.log_stories.proofs.plain.plain_verdict.Goals as goal
use Rattle.update_log.specs.Known.{basis_of}

pub returns : goal.returns
returns c = λ opening s.
    c.decided.ensures
    ∙ plain-verdict (basis_of c.args.facts.now opening) c.args.state.now c.views.result.now c.rows.result.now c.log.result.now c.args.client c.args.request.now c.args.stage c.views.ensures c.rows.ensures c.log.ensures s
