use Rattle.report_view.specs.Words.{is_blank}
use Rattle.report_view.proofs.Places.{unwrap_position}
use Rattle.report_view.proofs.words.blank_place.Goals as goal

pub returns-clause-place : goal.returns-clause-place
returns-clause-place c = unwrap_position is_blank c.args.text.now c.blank_among.result c.unwrap_or.result c.blank_among.ensures c.unwrap_or.ensures
