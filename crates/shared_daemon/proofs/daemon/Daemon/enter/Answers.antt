use Rattle.std.proofs.Common.{ap, sym, ◌∙◌}
use Rattle.history_keeper.specs.Signs.{signs_of}
use Rattle.daemon_core.specs.Housed.{Housed}
use Rattle.shared_daemon.specs.Entries.{chronicle}
use Rattle.shared_daemon.proofs.Turning.{begins-still, begun}
use Rattle.shared_daemon.proofs.daemon.Daemon.enter.Goals as goal

pub returns-clause-begins : goal.returns-clause-begins
returns-clause-begins g c =
    begins-still g.N.Naming.name c.args.pass.now c.enter-turn.result c.state.result.now
    (begun g.N.Naming.name c.args.pass.now c.enter-turn.result (signs_of g.K.Keeper.tells g.K.Keeper.doubt g.K.Keeper.faults) c.state.result.now c.args.self.now.id c.requires c.known.ensures.name c.known.ensures.house_log
    (c.enter-turn.ensures.turn.1 ∙ c.enter-turn.ensures.same) c.enter-turn.ensures.known.0 c.enter-turn.ensures.known.1
    (c.enter-turn.ensures.list ∙ ap (λ (h : Housed g.row.K.Denot). chronicle h) (sym c.state.ensures.value)) c.enter-turn.ensures.begins c.enter-turn.ensures.mine)
