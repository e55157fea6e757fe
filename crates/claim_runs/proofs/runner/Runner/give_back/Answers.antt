use Rattle.std.proofs.Common.{sym, subst}
use Rattle.block_pool.specs.Views.{SealedBytes}
use Rattle.emulated_boards.specs.Boards.{BoardState}
use Rattle.shared_daemon.specs.Steps.{GoesHome}
use Rattle.claim_runs.specs.Ran.{back_event}
use Rattle.claim_runs.proofs.Logs.{gained-event}
use Rattle.claim_runs.proofs.AtTurns.{went-back}
use Rattle.claim_runs.proofs.runner.Runner.give_back.Goals as goal

pub give_back-requires-clause-comes : goal.give_back-requires-clause-comes
give_back-requires-clause-comes g c =
    subst (λ (y : BoardState). GoesHome g.N.Naming.name c.args.pass.now.number c.args.entry y c.into_parts-board.result.1.count c.args.pass.now.seen) (sym c.into_parts-board.ensures.board)
    (subst (λ (q : SealedBytes). GoesHome g.N.Naming.name c.args.pass.now.number c.args.entry c.args.claim.board q.count c.args.pass.now.seen) (sym c.into_parts-board.ensures.payload) c.requires.home)

pub returns-clause-gained : goal.returns-clause-gained
returns-clause-gained g c = gained-event g.N.Naming.name (back_event c.args.pass.now.number c.args.entry) c.args.pass.now c.give_back.new.pass c.give_back.ensures.same c.give_back.ensures.turn c.give_back.ensures.turn.does

pub returns-clause-over : goal.returns-clause-over
returns-clause-over g c =
    went-back g.N.Naming.name c.args.self.now.daemon.now.id c.args.entry c.args.pass.now c.give_back.new.pass c.requires.pass c.give_back.ensures.same c.give_back.ensures.turn c.args.claim.board c.args.claim.payload.count c.requires.home c.give_back.ensures.turn.does
