use Rattle.std.proofs.Common.{ℕ, List, ap, sym, ◌∙◌}
use Rattle.update_log.specs.declared.event.Event.{Event}
use Rattle.daemon_core.specs.Housed.{Housed}
use Rattle.shared_daemon.specs.declared.entry.Entry.{Entry}
use Rattle.shared_daemon.specs.Entries.{chronicle}
use Rattle.shared_daemon.specs.Calls.{TurnedOrOffIn}
use Rattle.shared_daemon.proofs.Turning.{adds, begins-still, took, was-seen, went-adds}
use Rattle.shared_daemon.proofs.daemon.Daemon.start.Goals as goal
use Rattle.shared_daemon.specs.Steps.{MayStart}

pub start-answer-requires : goal.start-answer-requires
start-answer-requires g c = was-seen g.N.Naming.name c.args.pass.now c.enter-turn.result (λ i seen. MayStart g.N.Naming.name i c.args.entry c.args.op seen) c.args.self.now.id c.number.result (chronicle c.state.result.now) c.requires.pass c.enter-turn.ensures.begins (c.number.ensures ∙ c.enter-turn.ensures.same) (c.enter-turn.ensures.list ∙ ap (λ (h : Housed g.row.K.Denot). chronicle h) (sym c.state.ensures.value)) c.requires.next

pub leave-requires-clause-begun : goal.leave-requires-clause-begun
leave-requires-clause-begun g c = (c.args.pass.now, begins-still g.N.Naming.name c.args.pass.now c.enter-turn.result c.start-answer.new.self c.enter-turn.ensures.begins)

pub leave-requires-clause-adds : goal.leave-requires-clause-adds
leave-requires-clause-adds g c = adds g.N.Naming.name c.args.pass.now c.enter-turn.result c.number.result (chronicle c.state.result.now) (chronicle c.start-answer.new.self) c.enter-turn.ensures.begins (c.number.ensures ∙ c.enter-turn.ensures.same) (c.enter-turn.ensures.list ∙ ap (λ (h : Housed g.row.K.Denot). chronicle h) (sym c.state.ensures.value)) (went-adds c.number.result (λ (a : Unit {0}). Event.Start c.number.result c.args.entry c.args.op) c.start-answer.result (chronicle c.state.result.now) (chronicle c.start-answer.new.self) (c.start-answer.ensures))

pub returns-clause-turn : goal.returns-clause-turn
returns-clause-turn g c = took g.N.Naming.name c.args.pass.now c.enter-turn.result (λ (i : ℕ) (met log : List Entry). TurnedOrOffIn i (λ (a : Unit {0}). Event.Start i c.args.entry c.args.op) c.start-answer.result met log) c.leave.new.pass c.number.result (chronicle c.state.result.now) (chronicle c.start-answer.new.self) c.enter-turn.ensures.begins (c.number.ensures ∙ c.enter-turn.ensures.same) (c.enter-turn.ensures.list ∙ ap (λ (h : Housed g.row.K.Denot). chronicle h) (sym c.state.ensures.value)) (c.start-answer.ensures) c.leave.ensures.seen c.leave.ensures.mine
