use Rattle.std.proofs.Common.{◌∙◌}
use Rattle.report_view.proofs.RowTurns.{any_name}
use Rattle.report_view.proofs.lanes.is_name_known.Goals as goal

pub returns : goal.returns
returns c = c.is_name_among.ensures ∙ any_name c.args.names.now c.args.name.now
