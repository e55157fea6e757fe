use Rattle.std.proofs.Common.{refl, sym, subst}
use Rattle.history_keeper.specs.Signs.{signs_of}
use Rattle.update_log.specs.declared.event.Event.{Event}
use Rattle.shared_daemon.proofs.named.Named.start.Goals as goal
use Rattle.shared_daemon.proofs.Keeping.{keeps-calm, same-plans, went-calm}
use Rattle.shared_daemon.proofs.Seeing.{booted-named}
use Rattle.shared_daemon.proofs.Turning.{went-named}
use Rattle.shared_daemon.proofs.Stayed.{start-met}
use Rattle.daemon_core.specs.Housed.{Housed}
use Rattle.shared_daemon.specs.Calls.{WasSeen}
use Rattle.shared_daemon.specs.Entries.{chronicle}
use Rattle.shared_daemon.specs.Steps.{MayStart}

pub start-requires-clause-booted : goal.start-requires-clause-booted
start-requires-clause-booted g c = booted-named (signs_of g.K.Keeper.tells g.K.Keeper.doubt g.K.Keeper.faults) g.N.Naming.name c.self.inside.house c.self.invariant

pub start-requires-clause-next : goal.start-requires-clause-next
start-requires-clause-next g c = start-met (signs_of g.K.Keeper.tells g.K.Keeper.doubt g.K.Keeper.faults) g.N.Naming.name c.args.client c.self.inside.house c.args.entry c.args.op c.self.invariant c.known.ensures.house_log (subst (λ (h : Housed g.row.K.Denot). WasSeen g.N.Naming.name c.args.client (MayStart g.N.Naming.name c.args.client c.args.entry c.args.op) (chronicle h)) (sym c.self.view_is) c.requires)

pub invariant_of-self : goal.invariant_of-self
invariant_of-self g c = keeps-calm (signs_of g.K.Keeper.tells g.K.Keeper.doubt g.K.Keeper.faults) g.N.Naming.name c.args.client c.self.inside.house c.start.new.self c.self.invariant (went-calm c.args.client (λ (u : Unit {0}). Event.Start c.args.client c.args.entry c.args.op) c.start.result c.self.inside.house.house_log c.start.new.self.house_log (λ a. refl) (λ a. refl) c.start.ensures.turn) c.start.ensures.elsewhere.keeper (same-plans (signs_of g.K.Keeper.tells g.K.Keeper.doubt g.K.Keeper.faults) g.N.Naming.name c.args.client c.self.inside.house c.start.new.self c.self.invariant c.start.ensures.elsewhere.places)

pub returns : goal.returns
returns g c = went-named c.args.client (λ (u : Unit {0}). Event.Start c.args.client c.args.entry c.args.op) c.start.result c.args.self.now c.self.inside.house c.start.new.self c.self.view_is c.known.ensures.house_log c.start.ensures.turn
