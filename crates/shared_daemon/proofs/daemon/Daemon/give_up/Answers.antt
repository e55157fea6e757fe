use Rattle.std.proofs.Common.{◌≡◌, ℕ, List, refl, ap, sym, ◌∙◌, subst, inr}
use Rattle.std.specs.Prelude.{Some}
use Rattle.update_log.specs.declared.event.Event.{Event}
use Rattle.daemon_core.specs.Housed.{Housed}
use Rattle.shared_daemon.specs.declared.entry.Entry.{Entry}
use Rattle.shared_daemon.specs.Entries.{chronicle, past_seen, entry_of}
use Rattle.shared_daemon.specs.Calls.{Adds}
use Rattle.shared_daemon.proofs.Turning.{adds, begins-still, took, was-seen}
use Rattle.shared_daemon.proofs.daemon.Daemon.give_up.Goals as goal
use Rattle.daemon_core.specs.Holds.{back_of, held_by}
use Rattle.update_log.specs.Holding.{hold}

pub give_up-requires : goal.give_up-requires
give_up-requires g c = was-seen g.N.Naming.name c.args.pass.now c.enter-turn.result (λ i seen. hold (past_seen seen) i ≡ Some (held_by c.args.ticket c.into_blocks.result.count)) c.args.self.now.id c.number.result (chronicle c.state.result.now) c.requires.pass c.enter-turn.ensures.begins (c.number.ensures ∙ c.enter-turn.ensures.same) (c.enter-turn.ensures.list ∙ ap (λ (h : Housed g.row.K.Denot). chronicle h) (sym c.state.ensures.value)) (subst (λ (k : ℕ). hold (past_seen c.args.pass.now.seen) c.args.pass.now.number ≡ Some (held_by c.args.ticket k)) (sym c.into_blocks.ensures) c.requires.held)

pub leave-requires-clause-begun : goal.leave-requires-clause-begun
leave-requires-clause-begun g c = (c.args.pass.now, begins-still g.N.Naming.name c.args.pass.now c.enter-turn.result c.give_up.new.self c.enter-turn.ensures.begins)

pub leave-requires-clause-adds : goal.leave-requires-clause-adds
leave-requires-clause-adds g c = adds g.N.Naming.name c.args.pass.now c.enter-turn.result c.number.result (chronicle c.state.result.now) (chronicle c.give_up.new.self) c.enter-turn.ensures.begins (c.number.ensures ∙ c.enter-turn.ensures.same) (c.enter-turn.ensures.list ∙ ap (λ (h : Housed g.row.K.Denot). chronicle h) (sym c.state.ensures.value)) (inr (entry_of c.number.result (Event.GiveBack c.number.result (back_of c.args.ticket.pending c.args.ticket.request)), refl, c.give_up.ensures))

pub returns-clause-turn : goal.returns-clause-turn
returns-clause-turn g c = took g.N.Naming.name c.args.pass.now c.enter-turn.result (λ (i : ℕ) (met log : List Entry). Adds i (Event.GiveBack i (back_of c.args.ticket.pending c.args.ticket.request)) met log) c.leave.new.pass c.number.result (chronicle c.state.result.now) (chronicle c.give_up.new.self) c.enter-turn.ensures.begins (c.number.ensures ∙ c.enter-turn.ensures.same) (c.enter-turn.ensures.list ∙ ap (λ (h : Housed g.row.K.Denot). chronicle h) (sym c.state.ensures.value)) (c.give_up.ensures) c.leave.ensures.seen c.leave.ensures.mine
