use Rattle.std.proofs.Common.{◌≡◌, List, [], sym, subst}
use Rattle.emulated_boards.specs.Boards.{BoardState}
use Rattle.history_keeper.specs.Signs.{signs_of}
use Rattle.update_log.specs.Holding.{live}
use Rattle.daemon_core.specs.Housed.{Housed, past}
use Rattle.daemon_core.specs.Parts.{BoardsOf}
use Rattle.daemon_core.proofs.PartsKept.{house-boards, house-home}
use Rattle.daemon_core.proofs.house.House.into_parts.Goals as goal

pub of-boards-requires : goal.of-boards-requires
of-boards-requires g c =
    house-home (signs_of g.K.Keeper.tells g.K.Keeper.doubt g.K.Keeper.faults) (record { house_log = c.self.inside.house_log; places = c.self.inside.places.items; pool = c.self.inside.pool; keeper = c.self.inside.keeper }) c.self.invariant
    (subst (λ (h : Housed g.row.K.Denot). live (past h) ≡ []) (sym c.self.view_is) c.requires)

pub returns-clause-boards : goal.returns-clause-boards
returns-clause-boards g c =
    subst (λ (h : Housed g.row.K.Denot). BoardsOf h c.of-boards.result) c.self.view_is
    (subst (λ (bs : List BoardState). BoardsOf (record { house_log = c.self.inside.house_log; places = c.self.inside.places.items; pool = c.self.inside.pool; keeper = c.self.inside.keeper }) bs) (sym c.of-boards.ensures)
    (house-boards (signs_of g.K.Keeper.tells g.K.Keeper.doubt g.K.Keeper.faults) (record { house_log = c.self.inside.house_log; places = c.self.inside.places.items; pool = c.self.inside.pool; keeper = c.self.inside.keeper }) c.self.invariant
    (subst (λ (h : Housed g.row.K.Denot). live (past h) ≡ []) (sym c.self.view_is) c.requires)))
