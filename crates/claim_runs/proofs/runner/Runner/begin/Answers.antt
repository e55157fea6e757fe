use Rattle.update_log.specs.declared.event.Event.{Event}
use Rattle.claim_runs.proofs.Logs.{came-back, gained-event, gained-off}
use Rattle.claim_runs.proofs.AtTurns.{home-between, may-start, off-home, started}
use Rattle.claim_runs.proofs.runner.Runner.begin.Goals as goal

pub start-requires-clause-next : goal.start-requires-clause-next
start-requires-clause-next g c = may-start g.N.Naming.name c.args.entry c.args.pass.now c.args.op c.args.claim c.requires.runs c.requires.next

pub returns-in-Ok-clause-runs : goal.returns-in-Ok-clause-runs
returns-in-Ok-clause-runs g c =
    started g.N.Naming.name c.args.self.now.daemon.now.id c.args.entry c.args.pass.now c.start.new.pass c.requires.pass c.start.ensures.same c.in-Ok.ensures.turn c.args.op c.args.claim c.requires.runs c.in-Ok.ensures.turn.does

pub returns-in-Ok-clause-gained : goal.returns-in-Ok-clause-gained
returns-in-Ok-clause-gained g c = gained-event g.N.Naming.name (Event.Start c.args.pass.now.number c.args.entry c.args.op) c.args.pass.now c.start.new.pass c.start.ensures.same c.in-Ok.ensures.turn c.in-Ok.ensures.turn.does.1

pub give_back-requires-clause-home : goal.give_back-requires-clause-home
give_back-requires-clause-home g c =
    off-home g.N.Naming.name c.args.self.now.daemon.now.id c.args.entry c.args.pass.now c.start.new.pass c.requires.pass c.start.ensures.same c.in-Err.ensures.turn c.args.claim.board c.args.claim.payload.count (home-between g.N.Naming.name c.args.entry c.args.pass.now c.args.claim c.requires.runs) c.in-Err.ensures.turn.does

pub returns-in-Err-clause-gone : goal.returns-in-Err-clause-gone
returns-in-Err-clause-gone g c =
    came-back c.args.entry c.args.pass.now c.start.new.pass c.give_back.new.pass (gained-off g.N.Naming.name c.args.pass.now c.start.new.pass c.start.ensures.same c.in-Err.ensures.turn c.in-Err.ensures.turn.does) c.give_back.ensures.gained c.give_back.ensures.over
