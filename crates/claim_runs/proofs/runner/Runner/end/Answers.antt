use Rattle.claim_runs.proofs.Logs.{came-back, gained-off}
use Rattle.claim_runs.proofs.AtTurns.{ended, ended-gained, home-within, may-end, off-home}
use Rattle.claim_runs.proofs.runner.Runner.end.Goals as goal

pub end-requires-clause-ends : goal.end-requires-clause-ends
end-requires-clause-ends g c = may-end g.N.Naming.name c.args.entry c.args.pass.now c.args.op c.args.answer c.args.claim c.board.result.now c.requires.made c.board.ensures

pub returns-in-Ok-clause-runs : goal.returns-in-Ok-clause-runs
returns-in-Ok-clause-runs g c =
    ended g.N.Naming.name c.args.self.now.daemon.now.id c.args.entry c.args.pass.now c.end.new.pass c.requires.pass c.end.ensures.same c.in-Ok.ensures.turn c.args.op c.args.answer c.args.claim c.board.result.now c.requires.made c.board.ensures c.in-Ok.ensures.turn.does

pub returns-in-Ok-clause-gained : goal.returns-in-Ok-clause-gained
returns-in-Ok-clause-gained g c =
    ended-gained g.N.Naming.name c.args.self.now.daemon.now.id c.args.entry c.args.pass.now c.end.new.pass c.requires.pass c.end.ensures.same c.in-Ok.ensures.turn c.args.op c.args.answer c.args.claim.board c.board.result.now c.board.ensures c.in-Ok.ensures.turn.does

pub give_back-requires-clause-home : goal.give_back-requires-clause-home
give_back-requires-clause-home g c =
    off-home g.N.Naming.name c.args.self.now.daemon.now.id c.args.entry c.args.pass.now c.end.new.pass c.requires.pass c.end.ensures.same c.in-Err.ensures.turn c.args.claim.board c.args.claim.payload.count (home-within g.N.Naming.name c.args.entry c.args.pass.now c.args.op c.args.answer c.args.claim c.requires.made) c.in-Err.ensures.turn.does

pub returns-in-Err-clause-gone : goal.returns-in-Err-clause-gone
returns-in-Err-clause-gone g c =
    came-back c.args.entry c.args.pass.now c.end.new.pass c.give_back.new.pass (gained-off g.N.Naming.name c.args.pass.now c.end.new.pass c.end.ensures.same c.in-Err.ensures.turn c.in-Err.ensures.turn.does) c.give_back.ensures.gained c.give_back.ensures.over
