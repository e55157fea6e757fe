use Rattle.std.proofs.Common.{◌≡◌, ℕ, List, ap, sym, ◌∙◌, subst}
use Rattle.std.specs.Prelude.{Some}
use Rattle.daemon_core.specs.Housed.{Housed}
use Rattle.shared_daemon.specs.declared.entry.Entry.{Entry}
use Rattle.shared_daemon.specs.Entries.{chronicle, past_seen}
use Rattle.shared_daemon.specs.Calls.{TurnedIn}
use Rattle.shared_daemon.proofs.Turning.{adds, begins-still, took, was-seen, turned-adds}
use Rattle.shared_daemon.proofs.daemon.Daemon.claim.Goals as goal
use Rattle.daemon_core.specs.Claims.{claim_event, stopped_by}
use Rattle.daemon_core.specs.Fetches.{block_count}
use Rattle.daemon_core.specs.Holds.{held_by}
use Rattle.update_log.specs.Holding.{hold}
use Rattle.shared_daemon.specs.Taking.{ClaimGaveIn}

pub claim-answer-requires-clause-held : goal.claim-answer-requires-clause-held
claim-answer-requires-clause-held g c = was-seen g.N.Naming.name c.args.pass.now c.enter-turn.result (λ i seen. hold (past_seen seen) i ≡ Some (held_by c.args.ticket (block_count c.args.fetched))) c.args.self.now.id c.number.result (chronicle c.state.result.now) c.requires.pass c.enter-turn.ensures.begins (c.number.ensures ∙ c.enter-turn.ensures.same) (c.enter-turn.ensures.list ∙ ap (λ (h : Housed g.row.K.Denot). chronicle h) (sym c.state.ensures.value)) c.requires.held

pub leave-requires-clause-begun : goal.leave-requires-clause-begun
leave-requires-clause-begun g c = (c.args.pass.now, begins-still g.N.Naming.name c.args.pass.now c.enter-turn.result c.claim-answer.new.self c.enter-turn.ensures.begins)

pub leave-requires-clause-adds : goal.leave-requires-clause-adds
leave-requires-clause-adds g c = adds g.N.Naming.name c.args.pass.now c.enter-turn.result c.number.result (chronicle c.state.result.now) (chronicle c.claim-answer.new.self) c.enter-turn.ensures.begins (c.number.ensures ∙ c.enter-turn.ensures.same) (c.enter-turn.ensures.list ∙ ap (λ (h : Housed g.row.K.Denot). chronicle h) (sym c.state.ensures.value)) (turned-adds c.number.result (claim_event c.number.result c.args.ticket.request c.args.fetched) (stopped_by c.claim-answer.result) (chronicle c.state.result.now) (chronicle c.claim-answer.new.self) (c.claim-answer.ensures.turn))

pub returns-clause-turn : goal.returns-clause-turn
returns-clause-turn g c = took g.N.Naming.name c.args.pass.now c.enter-turn.result (λ (i : ℕ) (met log : List Entry). TurnedIn i (claim_event i c.args.ticket.request c.args.fetched) (stopped_by c.claim-answer.result) met log) c.leave.new.pass c.number.result (chronicle c.state.result.now) (chronicle c.claim-answer.new.self) c.enter-turn.ensures.begins (c.number.ensures ∙ c.enter-turn.ensures.same) (c.enter-turn.ensures.list ∙ ap (λ (h : Housed g.row.K.Denot). chronicle h) (sym c.state.ensures.value)) (c.claim-answer.ensures.turn) c.leave.ensures.seen c.leave.ensures.mine

pub returns-clause-gave : goal.returns-clause-gave
returns-clause-gave g c = subst (λ (l : List Entry). ClaimGaveIn g.N.Naming.name c.args.pass.now.number c.args.ticket c.args.fetched c.claim-answer.result l) (sym c.leave.ensures.seen) (subst (λ (i : ℕ). ClaimGaveIn g.N.Naming.name i c.args.ticket c.args.fetched c.claim-answer.result (chronicle c.claim-answer.new.self)) (c.number.ensures ∙ c.enter-turn.ensures.same) c.claim-answer.ensures.gave)
