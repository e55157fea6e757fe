use Rattle.std.proofs.Common.{◌≡◌, true, false, ap, sym, ◌∙◌}
use Rattle.daemon_core.specs.Housed.{HouseLogView}
use Rattle.daemon_core.specs.Openings.{house_log_of}
use Rattle.daemon_core.proofs.BootHouseLog.{house_log-reopened}
use Rattle.daemon_core.proofs.house_log.HouseLog.note_reopened.Goals as goal

pub invariant_of-self : goal.invariant_of-self
invariant_of-self c = record {
  house_log = house_log-reopened (house_log_of c.self.inside) true (λ u. let e : false ≡ true = sym u ∙ ap (λ (a : HouseLogView). a.loaded) c.self.view_is ∙ c.requires.loaded in cc) c.self.invariant.house_log;
  opening = c.self.invariant.opening;
}
