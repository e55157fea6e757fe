use Rattle.std.proofs.Common.{ℕ, List, ap, sym, ◌∙◌, IsSome}
use Rattle.daemon_core.specs.Housed.{Housed}
use Rattle.shared_daemon.specs.declared.entry.Entry.{Entry}
use Rattle.shared_daemon.specs.Entries.{chronicle, past_seen}
use Rattle.shared_daemon.specs.Calls.{JudgedIn}
use Rattle.shared_daemon.proofs.Turning.{adds, begins-still, took, was-seen}
use Rattle.shared_daemon.proofs.daemon.Daemon.judge.Goals as goal
use Rattle.shared_daemon.proofs.Answered.{judged-adds}
use Rattle.update_log.specs.Known.{row_of, rows}

pub judge-answer-requires : goal.judge-answer-requires
judge-answer-requires g c = was-seen g.N.Naming.name c.args.pass.now c.enter-turn.result (λ i seen. IsSome (row_of (rows g.N.Naming.name.basis (past_seen seen)) c.args.entry)) c.args.self.now.id c.number.result (chronicle c.state.result.now) c.requires.pass c.enter-turn.ensures.begins (c.number.ensures ∙ c.enter-turn.ensures.same) (c.enter-turn.ensures.list ∙ ap (λ (h : Housed g.row.K.Denot). chronicle h) (sym c.state.ensures.value)) c.requires.row

pub leave-requires-clause-begun : goal.leave-requires-clause-begun
leave-requires-clause-begun g c = (c.args.pass.now, begins-still g.N.Naming.name c.args.pass.now c.enter-turn.result c.judge-answer.new.self c.enter-turn.ensures.begins)

pub leave-requires-clause-adds : goal.leave-requires-clause-adds
leave-requires-clause-adds g c = adds g.N.Naming.name c.args.pass.now c.enter-turn.result c.number.result (chronicle c.state.result.now) (chronicle c.judge-answer.new.self) c.enter-turn.ensures.begins (c.number.ensures ∙ c.enter-turn.ensures.same) (c.enter-turn.ensures.list ∙ ap (λ (h : Housed g.row.K.Denot). chronicle h) (sym c.state.ensures.value)) (judged-adds g.N.Naming.name c.number.result c.args.entry c.judge-answer.result (chronicle c.state.result.now) (chronicle c.judge-answer.new.self) (c.judge-answer.ensures))

pub returns-clause-turn : goal.returns-clause-turn
returns-clause-turn g c = took g.N.Naming.name c.args.pass.now c.enter-turn.result (λ (i : ℕ) (met log : List Entry). JudgedIn g.N.Naming.name i c.args.entry c.judge-answer.result met log) c.leave.new.pass c.number.result (chronicle c.state.result.now) (chronicle c.judge-answer.new.self) c.enter-turn.ensures.begins (c.number.ensures ∙ c.enter-turn.ensures.same) (c.enter-turn.ensures.list ∙ ap (λ (h : Housed g.row.K.Denot). chronicle h) (sym c.state.ensures.value)) (c.judge-answer.ensures) c.leave.ensures.seen c.leave.ensures.mine
