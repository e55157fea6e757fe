use Rattle.std.proofs.Common.{sym}
use Rattle.device_list.proofs.Claims.{none_claimed, place_within, placed_claim}
use Rattle.device_list.proofs.devices.Devices.set_claim_of.Goals as goal

pub set_claim-requires : goal.set_claim-requires
set_claim-requires c = place_within c.args.device.now c.args.self.now c.in-Some.at (sym c.in-Some.ensures.first)

pub returns-in-Some : goal.returns-in-Some
returns-in-Some c =
    placed_claim c.args.device.now c.args.claim c.args.self.now c.set_claim.new.self c.in-Some.at c.distinct.ensures (sym c.in-Some.ensures.first) c.set_claim.ensures

pub returns-in-None : goal.returns-in-None
returns-in-None c = none_claimed c.args.device.now c.args.claim c.args.self.now (sym c.in-None.ensures.found)
