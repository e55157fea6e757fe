use Rattle.std.proofs.Common.{ℕ, List, ap, sym, ◌∙◌, subst}
use Rattle.update_log.specs.declared.event.Event.{Event}
use Rattle.daemon_core.specs.Housed.{Housed}
use Rattle.shared_daemon.specs.declared.entry.Entry.{Entry}
use Rattle.shared_daemon.specs.Entries.{chronicle, past_seen}
use Rattle.shared_daemon.specs.Calls.{TurnedOrOffIn}
use Rattle.shared_daemon.proofs.Turning.{adds, begins-still, took, was-seen, went-adds}
use Rattle.shared_daemon.proofs.daemon.Daemon.end.Goals as goal
use Rattle.shared_daemon.specs.Steps.{EndsOwn}
use Rattle.shared_daemon.proofs.Stayed.{marks-met}
use Rattle.daemon_core.specs.Returns.{new_marks}
use Rattle.emulated_boards.specs.Conditions.{view_of}
use Rattle.emulated_boards.specs.declared.mark.Mark.{Mark}

pub end-answer-requires : goal.end-answer-requires
end-answer-requires g c = was-seen g.N.Naming.name c.args.pass.now c.enter-turn.result (λ i seen. EndsOwn g.N.Naming.name i c.args.entry c.args.op c.args.outcome c.args.board.now seen) c.args.self.now.id c.number.result (chronicle c.state.result.now) c.requires.pass c.enter-turn.ensures.begins (c.number.ensures ∙ c.enter-turn.ensures.same) (c.enter-turn.ensures.list ∙ ap (λ (h : Housed g.row.K.Denot). chronicle h) (sym c.state.ensures.value)) c.requires.ends

pub leave-requires-clause-begun : goal.leave-requires-clause-begun
leave-requires-clause-begun g c = (c.args.pass.now, begins-still g.N.Naming.name c.args.pass.now c.enter-turn.result c.end-answer.new.self c.enter-turn.ensures.begins)

pub leave-requires-clause-adds : goal.leave-requires-clause-adds
leave-requires-clause-adds g c = adds g.N.Naming.name c.args.pass.now c.enter-turn.result c.number.result (chronicle c.state.result.now) (chronicle c.end-answer.new.self) c.enter-turn.ensures.begins (c.number.ensures ∙ c.enter-turn.ensures.same) (c.enter-turn.ensures.list ∙ ap (λ (h : Housed g.row.K.Denot). chronicle h) (sym c.state.ensures.value)) (went-adds c.number.result (λ (a : Unit {0}). Event.End c.number.result c.args.entry c.args.op c.args.outcome (new_marks g.N.Naming.name.basis (past_seen c.args.pass.now.seen) c.args.entry c.args.board.now.journal) (view_of c.args.board.now.condition)) c.end-answer.result (chronicle c.state.result.now) (chronicle c.end-answer.new.self) (subst (λ (marks : List Mark). TurnedOrOffIn c.number.result (λ (a : Unit {0}). Event.End c.number.result c.args.entry c.args.op c.args.outcome marks (view_of c.args.board.now.condition)) c.end-answer.result (chronicle c.state.result.now) (chronicle c.end-answer.new.self)) (ap (λ (l : List Entry). (new_marks g.N.Naming.name.basis (past_seen l) c.args.entry c.args.board.now.journal)) (sym (c.enter-turn.ensures.list ∙ ap (λ (h : Housed g.row.K.Denot). chronicle h) (sym c.state.ensures.value))) ∙ marks-met g.N.Naming.name c.args.pass.now.number c.args.pass.now.seen c.enter-turn.result.seen c.args.entry c.args.op c.args.outcome c.args.board.now c.requires.pass.log c.enter-turn.ensures.begins.meets c.requires.ends) c.end-answer.ensures))

pub returns-clause-turn : goal.returns-clause-turn
returns-clause-turn g c = took g.N.Naming.name c.args.pass.now c.enter-turn.result (λ (i : ℕ) (met log : List Entry). TurnedOrOffIn i (λ (a : Unit {0}). Event.End i c.args.entry c.args.op c.args.outcome (new_marks g.N.Naming.name.basis (past_seen c.args.pass.now.seen) c.args.entry c.args.board.now.journal) (view_of c.args.board.now.condition)) c.end-answer.result met log) c.leave.new.pass c.number.result (chronicle c.state.result.now) (chronicle c.end-answer.new.self) c.enter-turn.ensures.begins (c.number.ensures ∙ c.enter-turn.ensures.same) (c.enter-turn.ensures.list ∙ ap (λ (h : Housed g.row.K.Denot). chronicle h) (sym c.state.ensures.value)) (subst (λ (marks : List Mark). TurnedOrOffIn c.number.result (λ (a : Unit {0}). Event.End c.number.result c.args.entry c.args.op c.args.outcome marks (view_of c.args.board.now.condition)) c.end-answer.result (chronicle c.state.result.now) (chronicle c.end-answer.new.self)) (ap (λ (l : List Entry). (new_marks g.N.Naming.name.basis (past_seen l) c.args.entry c.args.board.now.journal)) (sym (c.enter-turn.ensures.list ∙ ap (λ (h : Housed g.row.K.Denot). chronicle h) (sym c.state.ensures.value))) ∙ marks-met g.N.Naming.name c.args.pass.now.number c.args.pass.now.seen c.enter-turn.result.seen c.args.entry c.args.op c.args.outcome c.args.board.now c.requires.pass.log c.enter-turn.ensures.begins.meets c.requires.ends) c.end-answer.ensures) c.leave.ensures.seen c.leave.ensures.mine
