use Rattle.report_text.proofs.Followed.{next-roomy, row-fits, stands-roomy}
use Rattle.report_text.proofs.report.follow.Goals as goal
use Rattle.update_log.specs.Known.{basis_of}

pub step-requires : goal.step-requires
step-requires g c =
    let stands = stands-roomy (basis_of c.args.facts.now g.opening) c.args.state.now _ _ _ c.in_ok-reserve.ensures.same c.requires.0 in
    (stands, (next-roomy (basis_of c.args.facts.now g.opening) c.args.state.now _ _ _ _ _ c.in_ok-reserve.ensures.same c.in_ok-next.ensures c.requires.1, (c.in_ok-reserve.ensures.room, row-fits (basis_of c.args.facts.now g.opening) _ _ stands c.in_ok-reserve.ensures.row)))

pub returns-in_err-reserve-clause-stands : goal.returns-in_err-reserve-clause-stands
returns-in_err-reserve-clause-stands g c = stands-roomy (basis_of c.args.facts.now g.opening) c.args.state.now _ _ _ c.reserve.ensures.same c.requires.0

pub returns-in_err-next-clause-stands : goal.returns-in_err-next-clause-stands
returns-in_err-next-clause-stands g c = stands-roomy (basis_of c.args.facts.now g.opening) c.args.state.now _ _ _ c.in_ok-reserve.ensures.same c.requires.0
