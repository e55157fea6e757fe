use Rattle.std.proofs.Common.{ap, ◌∙◌}
use Rattle.update_log.specs.Boards.{board_with}
use Rattle.update_log.specs.Known.{basis_of}
use Rattle.daemon_core.specs.Housed.{HouseLogView}
use Rattle.daemon_core.proofs.ClaimRows.{board-found}
use Rattle.daemon_core.proofs.house_log.HouseLog.board_with.Goals as goal

pub returns : goal.returns
returns c =
    c.board_on.ensures
    ∙ board-found (basis_of c.self.inside.facts _) c.self.inside.core c.args.device.now c.self.invariant.house_log.stands
    ∙ ap (λ (a : HouseLogView). board_with a.facts c.args.device.now) c.self.view_is
