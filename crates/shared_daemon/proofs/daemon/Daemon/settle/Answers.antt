use Rattle.std.proofs.Common.{ℕ, List, ap, sym, ◌∙◌}
use Rattle.daemon_core.specs.Housed.{Housed}
use Rattle.shared_daemon.specs.declared.entry.Entry.{Entry}
use Rattle.shared_daemon.specs.Entries.{chronicle}
use Rattle.shared_daemon.specs.Calls.{SettledIn}
use Rattle.shared_daemon.proofs.Turning.{adds, begins-still, took}
use Rattle.shared_daemon.proofs.daemon.Daemon.settle.Goals as goal
use Rattle.shared_daemon.proofs.Answered.{settled-adds}

pub leave-requires-clause-begun : goal.leave-requires-clause-begun
leave-requires-clause-begun g c = (c.args.pass.now, begins-still g.N.Naming.name c.args.pass.now c.enter-turn.result c.settle-answer.new.self c.enter-turn.ensures.begins)

pub leave-requires-clause-adds : goal.leave-requires-clause-adds
leave-requires-clause-adds g c = adds g.N.Naming.name c.args.pass.now c.enter-turn.result c.number.result (chronicle c.state.result.now) (chronicle c.settle-answer.new.self) c.enter-turn.ensures.begins (c.number.ensures ∙ c.enter-turn.ensures.same) (c.enter-turn.ensures.list ∙ ap (λ (h : Housed g.row.K.Denot). chronicle h) (sym c.state.ensures.value)) (settled-adds g.N.Naming.name c.number.result c.args.device.now c.settle-answer.result (chronicle c.state.result.now) (chronicle c.settle-answer.new.self) (c.settle-answer.ensures))

pub returns-clause-turn : goal.returns-clause-turn
returns-clause-turn g c = took g.N.Naming.name c.args.pass.now c.enter-turn.result (λ (i : ℕ) (met log : List Entry). SettledIn g.N.Naming.name i c.args.device.now c.settle-answer.result met log) c.leave.new.pass c.number.result (chronicle c.state.result.now) (chronicle c.settle-answer.new.self) c.enter-turn.ensures.begins (c.number.ensures ∙ c.enter-turn.ensures.same) (c.enter-turn.ensures.list ∙ ap (λ (h : Housed g.row.K.Denot). chronicle h) (sym c.state.ensures.value)) (c.settle-answer.ensures) c.leave.ensures.seen c.leave.ensures.mine
