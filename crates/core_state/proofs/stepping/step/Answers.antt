use Rattle.core_state.proofs.CoreAfter.{stands-next, takes-next}
use Rattle.core_state.proofs.stepping.step.Goals as goal
use Rattle.update_log.specs.Known.{basis_of}

pub take-requires : goal.take-requires
take-requires g c = takes-next (basis_of c.args.facts.now g.opening) c.args.state.now c.args.event c.requires.0 c.requires.1.0 c.requires.1.1.0 c.requires.1.1.1

pub returns-clause-log : goal.returns-clause-log
returns-clause-log g c = c.take.ensures.after.log

pub returns-clause-stands : goal.returns-clause-stands
returns-clause-stands g c = stands-next (basis_of c.args.facts.now g.opening) c.args.state.now c.take.new.self c.args.event c.requires.0 c.requires.1.0 c.take.ensures.after
