use Rattle.std.proofs.Common.{refl}
use Rattle.history_keeper.specs.Signs.{signs_of}
use Rattle.update_log.specs.declared.event.Event.{Event}
use Rattle.shared_daemon.proofs.named.Named.query.Goals as goal
use Rattle.shared_daemon.proofs.Keeping.{keeps-calm, same-plans, turned-calm}
use Rattle.shared_daemon.proofs.Seeing.{booted-named}
use Rattle.shared_daemon.proofs.Turning.{turned-named}
use Rattle.shared_daemon.proofs.Stayed.{may-ask}
use Rattle.daemon_core.specs.Housed.{basis_in, past}

pub query-requires-clause-booted : goal.query-requires-clause-booted
query-requires-clause-booted g c = booted-named (signs_of g.K.Keeper.tells g.K.Keeper.doubt g.K.Keeper.faults) g.N.Naming.name c.self.inside.house c.self.invariant

pub query-requires-clause-allowed : goal.query-requires-clause-allowed
query-requires-clause-allowed g c = may-ask (basis_in c.self.inside.house.house_log) (past c.self.inside.house) c.args.query.now c.requires

pub invariant_of-self : goal.invariant_of-self
invariant_of-self g c = keeps-calm (signs_of g.K.Keeper.tells g.K.Keeper.doubt g.K.Keeper.faults) g.N.Naming.name c.args.client c.self.inside.house c.query.new.self c.self.invariant (turned-calm c.args.client (λ (u : Unit {0}). Event.Query c.args.client c.args.query.now) c.query.result c.self.inside.house.house_log c.query.new.self.house_log (λ a. refl) (λ a. refl) c.query.ensures.turn) c.query.ensures.elsewhere.keeper (same-plans (signs_of g.K.Keeper.tells g.K.Keeper.doubt g.K.Keeper.faults) g.N.Naming.name c.args.client c.self.inside.house c.query.new.self c.self.invariant c.query.ensures.elsewhere.places)

pub returns : goal.returns
returns g c = turned-named c.args.client (λ (u : Unit {0}). Event.Query c.args.client c.args.query.now) c.query.result c.args.self.now c.self.inside.house c.query.new.self c.self.view_is c.known.ensures.house_log c.query.ensures.turn
