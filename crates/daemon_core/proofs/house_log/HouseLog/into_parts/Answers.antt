use Rattle.std.proofs.Common.{ap, ◌∙◌}
use Rattle.daemon_core.specs.Housed.{HouseLogView}
use Rattle.daemon_core.specs.Openings.{opening_in}
use Rattle.daemon_core.proofs.house_log.HouseLog.into_parts.Goals as goal

pub returns-clause-opening : goal.returns-clause-opening
returns-clause-opening c = c.opening_of.ensures ∙ ap (opening_in c.self.inside.opening) c.into_log_and_rows-log.ensures.rows ∙ ap (λ (a : HouseLogView). a.opening) c.self.view_is
