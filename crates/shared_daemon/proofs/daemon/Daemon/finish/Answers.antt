use Rattle.std.proofs.Common.{ℕ, List, ap, sym, ◌∙◌}
use Rattle.daemon_core.specs.Housed.{Housed}
use Rattle.shared_daemon.specs.declared.entry.Entry.{Entry}
use Rattle.shared_daemon.specs.Entries.{chronicle}
use Rattle.shared_daemon.specs.Calls.{FinishedIn}
use Rattle.shared_daemon.proofs.Turning.{adds, begins-still, took, was-seen}
use Rattle.shared_daemon.proofs.daemon.Daemon.finish.Goals as goal
use Rattle.shared_daemon.specs.Steps.{MayFinish}
use Rattle.shared_daemon.proofs.Answered.{finished-adds}

pub finish-answer-requires : goal.finish-answer-requires
finish-answer-requires g c = was-seen g.N.Naming.name c.args.pass.now c.enter-turn.result (λ i seen. MayFinish g.N.Naming.name i c.args.entry c.args.board c.args.payload.count seen) c.args.self.now.id c.number.result (chronicle c.state.result.now) c.requires.pass c.enter-turn.ensures.begins (c.number.ensures ∙ c.enter-turn.ensures.same) (c.enter-turn.ensures.list ∙ ap (λ (h : Housed g.row.K.Denot). chronicle h) (sym c.state.ensures.value)) c.requires.done

pub leave-requires-clause-begun : goal.leave-requires-clause-begun
leave-requires-clause-begun g c = (c.args.pass.now, begins-still g.N.Naming.name c.args.pass.now c.enter-turn.result c.finish-answer.new.self c.enter-turn.ensures.begins)

pub leave-requires-clause-adds : goal.leave-requires-clause-adds
leave-requires-clause-adds g c = adds g.N.Naming.name c.args.pass.now c.enter-turn.result c.number.result (chronicle c.state.result.now) (chronicle c.finish-answer.new.self) c.enter-turn.ensures.begins (c.number.ensures ∙ c.enter-turn.ensures.same) (c.enter-turn.ensures.list ∙ ap (λ (h : Housed g.row.K.Denot). chronicle h) (sym c.state.ensures.value)) (finished-adds c.number.result c.args.entry c.args.board c.args.payload c.finish-answer.result (chronicle c.state.result.now) (chronicle c.finish-answer.new.self) c.finish-answer.ensures.turn)

pub returns-clause-turn : goal.returns-clause-turn
returns-clause-turn g c = took g.N.Naming.name c.args.pass.now c.enter-turn.result (λ (i : ℕ) (met log : List Entry). FinishedIn i c.args.entry c.args.board c.args.payload c.finish-answer.result met log) c.leave.new.pass c.number.result (chronicle c.state.result.now) (chronicle c.finish-answer.new.self) c.enter-turn.ensures.begins (c.number.ensures ∙ c.enter-turn.ensures.same) (c.enter-turn.ensures.list ∙ ap (λ (h : Housed g.row.K.Denot). chronicle h) (sym c.state.ensures.value)) c.finish-answer.ensures.turn c.leave.ensures.seen c.leave.ensures.mine
