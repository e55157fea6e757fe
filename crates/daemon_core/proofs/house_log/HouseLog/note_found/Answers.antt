use Rattle.std.proofs.Common.{◌∙◌}
use Rattle.daemon_core.proofs.BootHouseLog.{house_log-reopened}
use Rattle.daemon_core.proofs.KeptSo.{still-none}
use Rattle.daemon_core.proofs.house_log.HouseLog.note_found.Goals as goal

pub invariant_of-self : goal.invariant_of-self
invariant_of-self c = record {
  house_log = house_log-reopened _ _ (λ u. c.is_reopened-self-inside.ensures ∙ still-none c.args.found _ (c.self.invariant.house_log.unopened u)) c.self.invariant.house_log;
  opening = c.self.invariant.opening;
}
