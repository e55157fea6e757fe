use Rattle.std.proofs.Common.{List, ap, ◌∙◌}
use Rattle.std.specs.Prelude.{slice_get}
use Rattle.history_keeper.specs.declared.row.Row.{Row}
use Rattle.daemon_core.specs.Housed.{HouseLogView}
use Rattle.daemon_core.specs.Openings.{opening_in}
use Rattle.daemon_core.proofs.house_log.HouseLog.opening.Goals as goal

pub returns : goal.returns
returns c =
    c.opening_row.ensures
    ∙ ap (λ (rs : List Row). slice_get (opening_in c.self.inside.opening rs) c.args.at) c.rows.ensures
    ∙ ap (λ (a : HouseLogView). slice_get a.opening c.args.at) c.self.view_is
