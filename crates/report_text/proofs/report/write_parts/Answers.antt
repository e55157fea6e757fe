use Rattle.std.proofs.lemmas.Result.{err_from_is_err_and}
use Rattle.std.proofs.Common.{[]}
use Rattle.outer_traits.proofs.Fronts.{front_first, front_later}
use Rattle.report_text.specs.Report.{first_line, in_turn, lines_in}
use Rattle.report_text.proofs.report.write_parts.Goals as goal
use Rattle.update_log.specs.Known.{basis_of}

pub returns-in_err-write_first-clause-front : goal.returns-in_err-write_first-clause-front
returns-in_err-write_first-clause-front g c =
    let p = err_from_is_err_and c.from_residual.result c.from_residual.ensures.1 in
    rw p.1 (front_first first_line _ _ _ c.in_err-write_first.ensures.front)

pub returns-in_err-write_log-clause-front : goal.returns-in_err-write_log-clause-front
returns-in_err-write_log-clause-front g c =
    let p = err_from_is_err_and c.from_residual-in_err-write_log.result c.from_residual-in_err-write_log.ensures.1 in
    rw p.1 (front_later first_line _ _ _ _ c.in_ok-write_first.ensures.whole (front_first (in_turn (lines_in (basis_of c.args.facts.now c.args.rows.now.items)) [] c.args.log.now) _ _ _ c.in_err-write_log.ensures.front))

pub returns-in_err-write_last-clause-front : goal.returns-in_err-write_last-clause-front
returns-in_err-write_last-clause-front g c =
    let p = err_from_is_err_and c.from_residual-in_err-write_last.result c.from_residual-in_err-write_last.ensures.1 in
    rw p.1 (front_later first_line _ _ _ _ c.in_ok-write_first.ensures.whole (front_later (in_turn (lines_in (basis_of c.args.facts.now c.args.rows.now.items)) [] c.args.log.now) _ _ _ _ c.in_ok-write_log.ensures.whole c.in_err-write_last.ensures.front))
