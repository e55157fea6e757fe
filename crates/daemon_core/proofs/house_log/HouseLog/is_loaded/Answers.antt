use Rattle.std.proofs.Common.{ap, ◌∙◌}
use Rattle.daemon_core.specs.Housed.{HouseLogView}
use Rattle.daemon_core.proofs.house_log.HouseLog.is_loaded.Goals as goal

pub returns : goal.returns
returns c = c.is_taken.ensures ∙ ap (λ (a : HouseLogView). a.loaded) c.self.view_is
