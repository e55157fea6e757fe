use Rattle.std.proofs.Common.{◌≡◌, refl, sym, subst}
use Rattle.std.specs.Prelude.{Some}
use Rattle.history_keeper.specs.Signs.{signs_of}
use Rattle.shared_daemon.proofs.named.Named.claim.Goals as goal
use Rattle.shared_daemon.proofs.Keeping.{keeps-counted, turned-grew}
use Rattle.daemon_core.proofs.Planned.{claim-plans}
use Rattle.shared_daemon.proofs.Seeing.{booted-named}
use Rattle.shared_daemon.proofs.Turning.{turned-named}
use Rattle.shared_daemon.proofs.Stayed.{hold-met}
use Rattle.daemon_core.specs.Housed.{Housed}
use Rattle.shared_daemon.specs.Calls.{WasSeen}
use Rattle.shared_daemon.specs.Entries.{chronicle, past_seen}
use Rattle.update_log.specs.Holding.{hold}
use Rattle.update_log.specs.declared.facts.Facts.{Facts}
use Rattle.daemon_core.specs.Claims.{claim_event, stopped_by}
use Rattle.daemon_core.specs.Fetches.{IsFetchOf, block_count}
use Rattle.daemon_core.specs.Holds.{held_by}
use Rattle.shared_daemon.proofs.Taken.{gave-named}

pub claim-claimed-requires-clause-booted : goal.claim-claimed-requires-clause-booted
claim-claimed-requires-clause-booted g c = booted-named (signs_of g.K.Keeper.tells g.K.Keeper.doubt g.K.Keeper.faults) g.N.Naming.name c.self.inside.house c.self.invariant

pub claim-claimed-requires-clause-held : goal.claim-claimed-requires-clause-held
claim-claimed-requires-clause-held g c = hold-met (signs_of g.K.Keeper.tells g.K.Keeper.doubt g.K.Keeper.faults) g.N.Naming.name c.args.client c.self.inside.house (held_by c.args.ticket (block_count c.args.fetched)) c.self.invariant c.known.ensures.house_log (subst (λ (h : Housed g.row.K.Denot). WasSeen g.N.Naming.name c.args.client (λ seen. hold (past_seen seen) c.args.client ≡ Some (held_by c.args.ticket (block_count c.args.fetched))) (chronicle h)) (sym c.self.view_is) c.requires.held)

pub claim-claimed-requires-clause-whole : goal.claim-claimed-requires-clause-whole
claim-claimed-requires-clause-whole g c = subst (λ (f : Facts). IsFetchOf f c.args.ticket.release c.args.fetched) (sym c.self.invariant.facts_are) c.requires.whole

pub invariant_of-self : goal.invariant_of-self
invariant_of-self g c = (keeps-counted (signs_of g.K.Keeper.tells g.K.Keeper.doubt g.K.Keeper.faults) g.N.Naming.name c.args.client c.self.inside.house c.claim-claimed.new.self c.self.invariant (turned-grew c.args.client (claim_event c.args.client c.args.ticket.request c.args.fetched) (stopped_by c.claim-claimed.result) c.self.inside.house.house_log c.claim-claimed.new.self.house_log (λ a. refl) c.claim-claimed.ensures.turn) c.claim-claimed.ensures.fared c.claim-claimed.ensures.counts (claim-plans g.N.Naming.name.plans c.args.client c.args.ticket c.args.fetched c.claim-claimed.result c.self.inside.house c.claim-claimed.new.self c.claim-claimed.ensures.gave c.self.invariant.planned))

pub returns-clause-turn : goal.returns-clause-turn
returns-clause-turn g c = turned-named c.args.client (claim_event c.args.client c.args.ticket.request c.args.fetched) (stopped_by c.claim-claimed.result) c.args.self.now c.self.inside.house c.claim-claimed.new.self c.self.view_is c.known.ensures.house_log c.claim-claimed.ensures.turn

pub returns-clause-gave : goal.returns-clause-gave
returns-clause-gave g c = gave-named (signs_of g.K.Keeper.tells g.K.Keeper.doubt g.K.Keeper.faults) g.N.Naming.name c.args.client c.args.ticket c.args.fetched c.claim-claimed.result c.self.inside.house c.claim-claimed.new.self (keeps-counted (signs_of g.K.Keeper.tells g.K.Keeper.doubt g.K.Keeper.faults) g.N.Naming.name c.args.client c.self.inside.house c.claim-claimed.new.self c.self.invariant (turned-grew c.args.client (claim_event c.args.client c.args.ticket.request c.args.fetched) (stopped_by c.claim-claimed.result) c.self.inside.house.house_log c.claim-claimed.new.self.house_log (λ a. refl) c.claim-claimed.ensures.turn) c.claim-claimed.ensures.fared c.claim-claimed.ensures.counts (claim-plans g.N.Naming.name.plans c.args.client c.args.ticket c.args.fetched c.claim-claimed.result c.self.inside.house c.claim-claimed.new.self c.claim-claimed.ensures.gave c.self.invariant.planned)) c.known-2.ensures.house_log c.self.invariant.planned c.claim-claimed.ensures.gave
