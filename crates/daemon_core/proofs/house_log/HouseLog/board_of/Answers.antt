use Rattle.std.proofs.Common.{ap, ◌∙◌}
use Rattle.update_log.specs.Known.{basis_of, board_of}
use Rattle.daemon_core.specs.Housed.{HouseLogView}
use Rattle.daemon_core.proofs.ClaimNumbers.{board-kept}
use Rattle.daemon_core.proofs.house_log.HouseLog.board_of.Goals as goal

pub returns : goal.returns
returns c =
    c.board_of_entry.ensures
    ∙ board-kept (basis_of c.self.inside.facts _) c.self.inside.core c.args.entry c.self.invariant.house_log.stands
    ∙ ap (λ (a : HouseLogView). board_of a.facts a.core.rows c.args.entry) c.self.view_is
