use Rattle.std.proofs.Common.{◌∙◌}
use Rattle.core_state.proofs.CoreStands.{stands-verdict}
use Rattle.core_state.proofs.deciding.verdict.Goals as goal
use Rattle.update_log.specs.Known.{basis_of}

pub returns : goal.returns
returns c = λ opening s. c.decided.ensures ∙ stands-verdict (basis_of c.args.facts.now opening) c.args.state.now c.args.client c.args.request.now c.args.stage s
