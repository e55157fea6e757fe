use Rattle.daemon_core.proofs.HouseKept.{house-entered}
use Rattle.daemon_core.proofs.house.House.enter.Goals as goal

pub invariant_of-self : goal.invariant_of-self
invariant_of-self g c =
    house-entered _ c.args.client c.args.events c.enter.result
    (record { house_log = c.self.inside.house_log; places = c.self.inside.places.items; pool = c.self.inside.pool; keeper = c.self.inside.keeper })
    c.enter.new.self c.self.invariant c.enter.ensures.was c.enter.ensures.known c.enter.ensures.entered
