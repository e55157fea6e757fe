use Rattle.std.proofs.Common.{subst}
use Rattle.daemon_core.specs.HouseLog.{IsHouseLog}
use Rattle.daemon_core.proofs.house_log.HouseLog.known.Goals as goal

pub returns : goal.returns
returns c = subst IsHouseLog c.self.view_is c.self.invariant.house_log
