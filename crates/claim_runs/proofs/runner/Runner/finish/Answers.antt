use Rattle.std.proofs.Common.{◌∙◌}
use Rattle.std.specs.Prelude.{Err, Ok}
use Rattle.shared_daemon.specs.Calls.{FinishedIn}
use Rattle.claim_runs.specs.Ran.{back_event}
use Rattle.claim_runs.proofs.Logs.{came-back, gained-event, gained-off}
use Rattle.claim_runs.proofs.AtTurns.{finish-off, finished, may-finish, went-back}
use Rattle.claim_runs.proofs.runner.Runner.finish.Goals as goal

pub finish-requires-clause-done : goal.finish-requires-clause-done
finish-requires-clause-done g c =
    may-finish g.N.Naming.name c.args.entry c.args.pass.now c.args.claim c.into_parts-board.result.0 c.into_parts-board.result.1 c.requires.runs c.requires.done c.into_parts-board.ensures.board c.into_parts-board.ensures.payload

pub give_back-requires-clause-comes : goal.give_back-requires-clause-comes
give_back-requires-clause-comes g c =
    let d = c.in-Err.ensures.turn.does in
    finish-off {did = FinishedIn c.args.pass.now.number c.args.entry c.into_parts-board.result.0 c.into_parts-board.result.1 (Err c.in-Err.stop)} g.N.Naming.name c.args.self.now.daemon.now.id c.args.entry c.args.pass.now c.finish.new.pass c.requires.pass c.finish.ensures.same c.in-Err.ensures.turn c.args.claim c.in-Err.stop.board c.in-Err.stop.payload c.requires.runs d.0 (d.1 ∙ c.into_parts-board.ensures.board) (d.2 ∙ c.into_parts-board.ensures.payload)

pub returns-in-Ok-clause-closed : goal.returns-in-Ok-clause-closed
returns-in-Ok-clause-closed g c =
    finished {did = FinishedIn c.args.pass.now.number c.args.entry c.into_parts-board.result.0 c.into_parts-board.result.1 (Ok c.in-Ok.finished)} g.N.Naming.name c.args.self.now.daemon.now.id c.args.entry c.args.pass.now c.finish.new.pass c.requires.pass c.finish.ensures.same c.in-Ok.ensures.turn c.args.claim c.in-Ok.finished c.requires.runs c.in-Ok.ensures.turn.does

pub returns-in-Err-clause-closed : goal.returns-in-Err-clause-closed
returns-in-Err-clause-closed g c =
    let d = c.in-Err.ensures.turn.does in
    came-back c.args.entry c.args.pass.now c.finish.new.pass c.give_back.new.pass (gained-off {did = FinishedIn c.args.pass.now.number c.args.entry c.into_parts-board.result.0 c.into_parts-board.result.1 (Err c.in-Err.stop)} g.N.Naming.name c.args.pass.now c.finish.new.pass c.finish.ensures.same c.in-Err.ensures.turn d.0)
    (gained-event g.N.Naming.name (back_event c.finish.new.pass.number c.args.entry) c.finish.new.pass c.give_back.new.pass c.give_back.ensures.same c.give_back.ensures.turn c.give_back.ensures.turn.does)
    (went-back g.N.Naming.name c.args.self.now.daemon.now.id c.args.entry c.finish.new.pass c.give_back.new.pass c.finish.ensures.pass c.give_back.ensures.same c.give_back.ensures.turn c.in-Err.stop.board c.in-Err.stop.payload.count
    (finish-off {did = FinishedIn c.args.pass.now.number c.args.entry c.into_parts-board.result.0 c.into_parts-board.result.1 (Err c.in-Err.stop)} g.N.Naming.name c.args.self.now.daemon.now.id c.args.entry c.args.pass.now c.finish.new.pass c.requires.pass c.finish.ensures.same c.in-Err.ensures.turn c.args.claim c.in-Err.stop.board c.in-Err.stop.payload c.requires.runs d.0 (d.1 ∙ c.into_parts-board.ensures.board) (d.2 ∙ c.into_parts-board.ensures.payload)) c.give_back.ensures.turn.does)
