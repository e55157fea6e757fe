use Rattle.std.proofs.Common.{ℕ, List, ap, sym, ◌∙◌, subst}
use Rattle.std.specs.Prelude.{None, IfOk}
use Rattle.update_log.specs.declared.event.Event.{Event}
use Rattle.daemon_core.specs.Housed.{Housed}
use Rattle.shared_daemon.specs.declared.entry.Entry.{Entry}
use Rattle.shared_daemon.specs.Entries.{chronicle, past_seen}
use Rattle.shared_daemon.specs.Calls.{TurnedIn}
use Rattle.shared_daemon.proofs.Turning.{adds, begins-still, took, was-seen, turned-adds}
use Rattle.shared_daemon.proofs.daemon.Daemon.ask.Goals as goal
use Rattle.update_log.specs.Legal.{IsFree}
use Rattle.daemon_core.specs.declared.hold.Asked.{Asked}
use Rattle.daemon_core.specs.Holds.{HoldsFor, answer_of}

pub ask-answer-requires : goal.ask-answer-requires
ask-answer-requires g c = was-seen g.N.Naming.name c.args.pass.now c.enter-turn.result (λ i seen. IsFree (past_seen seen) i) c.args.self.now.id c.number.result (chronicle c.state.result.now) c.requires.pass c.enter-turn.ensures.begins (c.number.ensures ∙ c.enter-turn.ensures.same) (c.enter-turn.ensures.list ∙ ap (λ (h : Housed g.row.K.Denot). chronicle h) (sym c.state.ensures.value)) c.requires.free

pub leave-requires-clause-begun : goal.leave-requires-clause-begun
leave-requires-clause-begun g c = (c.args.pass.now, begins-still g.N.Naming.name c.args.pass.now c.enter-turn.result c.ask-answer.new.self c.enter-turn.ensures.begins)

pub leave-requires-clause-adds : goal.leave-requires-clause-adds
leave-requires-clause-adds g c = adds g.N.Naming.name c.args.pass.now c.enter-turn.result c.number.result (chronicle c.state.result.now) (chronicle c.ask-answer.new.self) c.enter-turn.ensures.begins (c.number.ensures ∙ c.enter-turn.ensures.same) (c.enter-turn.ensures.list ∙ ap (λ (h : Housed g.row.K.Denot). chronicle h) (sym c.state.ensures.value)) (turned-adds c.number.result (λ (a : Asked). Event.Ask c.number.result c.args.request.now None (answer_of a)) c.ask-answer.result (chronicle c.state.result.now) (chronicle c.ask-answer.new.self) (c.ask-answer.ensures.turn))

pub returns-clause-turn : goal.returns-clause-turn
returns-clause-turn g c = took g.N.Naming.name c.args.pass.now c.enter-turn.result (λ (i : ℕ) (met log : List Entry). TurnedIn i (λ (a : Asked). Event.Ask i c.args.request.now None (answer_of a)) c.ask-answer.result met log) c.leave.new.pass c.number.result (chronicle c.state.result.now) (chronicle c.ask-answer.new.self) c.enter-turn.ensures.begins (c.number.ensures ∙ c.enter-turn.ensures.same) (c.enter-turn.ensures.list ∙ ap (λ (h : Housed g.row.K.Denot). chronicle h) (sym c.state.ensures.value)) (c.ask-answer.ensures.turn) c.leave.ensures.seen c.leave.ensures.mine

pub returns-clause-holds : goal.returns-clause-holds
returns-clause-holds g c = subst (λ (i : ℕ). IfOk c.ask-answer.result (HoldsFor g.N.Naming.name.basis.facts i c.args.request.now None)) (c.number.ensures ∙ c.enter-turn.ensures.same) c.ask-answer.ensures.holds
