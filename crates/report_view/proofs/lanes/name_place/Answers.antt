use Rattle.report_view.proofs.RowTurns.{place_of_name}
use Rattle.report_view.proofs.lanes.name_place.Goals as goal

pub returns : goal.returns
returns c = place_of_name c.args.names.now c.args.name.now c.place_among.result c.unwrap_or.result c.place_among.ensures c.unwrap_or.ensures
