use Rattle.std.proofs.Common.{ℕ, List, refl, ap, sym, ◌∙◌, inr}
use Rattle.update_log.specs.declared.event.Event.{Event}
use Rattle.daemon_core.specs.Housed.{Housed}
use Rattle.shared_daemon.specs.declared.entry.Entry.{Entry}
use Rattle.shared_daemon.specs.Entries.{chronicle, entry_of}
use Rattle.shared_daemon.specs.Calls.{Adds}
use Rattle.shared_daemon.proofs.Turning.{adds, begins-still, took, was-seen}
use Rattle.shared_daemon.proofs.daemon.Daemon.give_back.Goals as goal
use Rattle.shared_daemon.specs.Steps.{GoesHome}
use Rattle.update_log.specs.declared.event.Back.{Back}

pub give_back-requires : goal.give_back-requires
give_back-requires g c = was-seen g.N.Naming.name c.args.pass.now c.enter-turn.result (λ i seen. GoesHome g.N.Naming.name i c.args.entry c.args.board c.args.payload.count seen) c.args.self.now.id c.number.result (chronicle c.state.result.now) c.requires.pass c.enter-turn.ensures.begins (c.number.ensures ∙ c.enter-turn.ensures.same) (c.enter-turn.ensures.list ∙ ap (λ (h : Housed g.row.K.Denot). chronicle h) (sym c.state.ensures.value)) c.requires.comes

pub leave-requires-clause-begun : goal.leave-requires-clause-begun
leave-requires-clause-begun g c = (c.args.pass.now, begins-still g.N.Naming.name c.args.pass.now c.enter-turn.result c.give_back.new.self c.enter-turn.ensures.begins)

pub leave-requires-clause-adds : goal.leave-requires-clause-adds
leave-requires-clause-adds g c = adds g.N.Naming.name c.args.pass.now c.enter-turn.result c.number.result (chronicle c.state.result.now) (chronicle c.give_back.new.self) c.enter-turn.ensures.begins (c.number.ensures ∙ c.enter-turn.ensures.same) (c.enter-turn.ensures.list ∙ ap (λ (h : Housed g.row.K.Denot). chronicle h) (sym c.state.ensures.value)) (inr (entry_of c.number.result (Event.GiveBack c.number.result (Back.Entry c.args.entry)), refl, c.give_back.ensures))

pub returns-clause-turn : goal.returns-clause-turn
returns-clause-turn g c = took g.N.Naming.name c.args.pass.now c.enter-turn.result (λ (i : ℕ) (met log : List Entry). Adds i (Event.GiveBack i (Back.Entry c.args.entry)) met log) c.leave.new.pass c.number.result (chronicle c.state.result.now) (chronicle c.give_back.new.self) c.enter-turn.ensures.begins (c.number.ensures ∙ c.enter-turn.ensures.same) (c.enter-turn.ensures.list ∙ ap (λ (h : Housed g.row.K.Denot). chronicle h) (sym c.state.ensures.value)) (c.give_back.ensures) c.leave.ensures.seen c.leave.ensures.mine
