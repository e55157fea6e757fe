use Rattle.std.proofs.lemmas.Result.{err_from_is_err_and}
use Rattle.outer_traits.proofs.Fronts.{front_none}
use Rattle.report_text.proofs.report.write_event.Goals as goal

pub returns-in_err-text_of-clause-front : goal.returns-in_err-text_of-clause-front
returns-in_err-text_of-clause-front g c =
    let p = err_from_is_err_and c.from_residual.result c.from_residual.ensures.1 in
    rw p.1 (front_none _ _)
