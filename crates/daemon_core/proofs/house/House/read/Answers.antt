use Rattle.std.proofs.Common.{◌≤◌, sym, subst}
use Rattle.history_keeper.specs.Signs.{signs_of}
use Rattle.daemon_core.specs.Housed.{Housed}
use Rattle.daemon_core.proofs.BootReads.{can-boot, house-read}
use Rattle.daemon_core.proofs.KeptSo.{so-keeps}
use Rattle.daemon_core.proofs.house.House.read.Goals as goal

pub read_history-requires-clause-kept : goal.read_history-requires-clause-kept
read_history-requires-clause-kept g c = λ l. so-keeps c.self.inside.house_log.reopened _ c.self.inside.keeper _ _ (c.self.invariant.kept l)

pub invariant_of-self : goal.invariant_of-self
invariant_of-self g c =
    house-read (signs_of g.K.Keeper.tells g.K.Keeper.doubt g.K.Keeper.faults) g.K.Keeper.settled (record { house_log = c.self.inside.house_log; places = c.self.inside.places.items; pool = c.self.inside.pool; keeper = c.self.inside.keeper })
    c.read_history.new.keeper c.self.invariant c.known.ensures c.read_history.result c.read_history.new.house_log c.read_history.ensures.first c.read_history.ensures.later

pub returns-clause-ready : goal.returns-clause-ready
returns-clause-ready g c =
    can-boot (signs_of g.K.Keeper.tells g.K.Keeper.doubt g.K.Keeper.faults) g.K.Keeper.settled (record { house_log = c.self.inside.house_log; places = c.self.inside.places.items; pool = c.self.inside.pool; keeper = c.self.inside.keeper })
    c.read_history.new.keeper c.self.invariant c.known.ensures
    (subst (λ (h : Housed g.row.K.Denot). 1 ≤ h.house_log.core.row_room) (sym c.self.view_is) c.requires)
    c.read_history.result c.read_history.new.house_log c.read_history.ensures.first c.read_history.ensures.later
