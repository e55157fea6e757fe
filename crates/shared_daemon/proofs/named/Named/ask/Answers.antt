use Rattle.std.proofs.Common.{refl, sym, subst}
use Rattle.std.specs.Prelude.{None, IfOk}
use Rattle.history_keeper.specs.Signs.{signs_of}
use Rattle.update_log.specs.declared.event.Event.{Event}
use Rattle.shared_daemon.proofs.named.Named.ask.Goals as goal
use Rattle.shared_daemon.proofs.Keeping.{keeps-calm, same-plans, turned-calm}
use Rattle.shared_daemon.proofs.Seeing.{booted-named}
use Rattle.shared_daemon.proofs.Turning.{turned-named}
use Rattle.shared_daemon.proofs.Stayed.{free-met}
use Rattle.daemon_core.specs.Housed.{Housed}
use Rattle.shared_daemon.specs.Calls.{WasSeen}
use Rattle.shared_daemon.specs.Entries.{chronicle, past_seen}
use Rattle.daemon_core.specs.declared.hold.Asked.{Asked}
use Rattle.daemon_core.specs.Holds.{HoldsFor, answer_of}
use Rattle.update_log.specs.Legal.{IsFree}
use Rattle.update_log.specs.declared.facts.Facts.{Facts}

pub ask-requires-clause-booted : goal.ask-requires-clause-booted
ask-requires-clause-booted g c = booted-named (signs_of g.K.Keeper.tells g.K.Keeper.doubt g.K.Keeper.faults) g.N.Naming.name c.self.inside.house c.self.invariant

pub ask-requires-clause-free : goal.ask-requires-clause-free
ask-requires-clause-free g c = free-met (signs_of g.K.Keeper.tells g.K.Keeper.doubt g.K.Keeper.faults) g.N.Naming.name c.args.client c.self.inside.house c.self.invariant c.known.ensures.house_log (subst (λ (h : Housed g.row.K.Denot). WasSeen g.N.Naming.name c.args.client (λ seen. IsFree (past_seen seen) c.args.client) (chronicle h)) (sym c.self.view_is) c.requires)

pub invariant_of-self : goal.invariant_of-self
invariant_of-self g c = keeps-calm (signs_of g.K.Keeper.tells g.K.Keeper.doubt g.K.Keeper.faults) g.N.Naming.name c.args.client c.self.inside.house c.ask.new.self c.self.invariant (turned-calm c.args.client (λ (asked : Asked). Event.Ask c.args.client c.args.request.now None (answer_of asked)) c.ask.result c.self.inside.house.house_log c.ask.new.self.house_log (λ a. refl) (λ a. refl) c.ask.ensures.turn) c.ask.ensures.keeper (same-plans (signs_of g.K.Keeper.tells g.K.Keeper.doubt g.K.Keeper.faults) g.N.Naming.name c.args.client c.self.inside.house c.ask.new.self c.self.invariant c.ask.ensures.places)

pub returns-clause-turn : goal.returns-clause-turn
returns-clause-turn g c = turned-named c.args.client (λ (asked : Asked). Event.Ask c.args.client c.args.request.now None (answer_of asked)) c.ask.result c.args.self.now c.self.inside.house c.ask.new.self c.self.view_is c.known.ensures.house_log c.ask.ensures.turn

pub returns-clause-holds : goal.returns-clause-holds
returns-clause-holds g c = subst (λ (f : Facts). IfOk c.ask.result (HoldsFor f c.args.client c.args.request.now None)) c.self.invariant.facts_are c.ask.ensures.holds
