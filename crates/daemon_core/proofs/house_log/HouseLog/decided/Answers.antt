use Rattle.std.proofs.Common.{ap, ◌∙◌}
use Rattle.update_log.specs.Verdicts.{verdict}
use Rattle.daemon_core.specs.Housed.{basis_in, HouseLogView, past_in}
use Rattle.daemon_core.proofs.house_log.HouseLog.decided.Goals as goal

pub returns : goal.returns
returns c =
    c.verdict.ensures _ c.self.invariant.house_log.stands
    ∙ ap (λ (a : HouseLogView). verdict (basis_in a) (past_in a) c.args.client c.args.request.now c.args.stage) c.self.view_is
