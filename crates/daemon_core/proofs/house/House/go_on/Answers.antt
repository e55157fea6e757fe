use Rattle.daemon_core.proofs.ClaimHouse.{house-gone}
use Rattle.daemon_core.proofs.house.House.go_on.Goals as goal

pub invariant_of-self : goal.invariant_of-self
invariant_of-self g c =
    house-gone _ c.args.client c.go_on.result
    (record { house_log = c.self.inside.house_log; places = c.self.inside.places.items; pool = c.self.inside.pool; keeper = c.self.inside.keeper })
    c.go_on.new.self c.self.invariant c.go_on.ensures.was c.go_on.ensures.known c.go_on.ensures.gone
