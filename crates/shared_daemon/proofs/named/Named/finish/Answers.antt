use Rattle.std.proofs.Common.{sym, subst}
use Rattle.history_keeper.specs.Signs.{signs_of}
use Rattle.shared_daemon.proofs.named.Named.finish.Goals as goal
use Rattle.shared_daemon.proofs.Keeping.{keeps-counted}
use Rattle.daemon_core.proofs.Planned.{finish-plans}
use Rattle.shared_daemon.proofs.Seeing.{booted-named}
use Rattle.shared_daemon.proofs.Stayed.{comes-met, done-met, finish-planned}
use Rattle.daemon_core.specs.Housed.{basis_in, Housed, past}
use Rattle.shared_daemon.specs.Calls.{WasSeen, FinishedIn}
use Rattle.shared_daemon.specs.Entries.{chronicle}
use Rattle.shared_daemon.specs.Steps.{MayFinish}
use Rattle.shared_daemon.proofs.Answered.{finished-grew, finished-in}
use Rattle.daemon_core.specs.Returns.{number_of}

pub finish-requires-clause-booted : goal.finish-requires-clause-booted
finish-requires-clause-booted g c = booted-named (signs_of g.K.Keeper.tells g.K.Keeper.doubt g.K.Keeper.faults) g.N.Naming.name c.self.inside.house c.self.invariant

pub finish-requires-clause-comes : goal.finish-requires-clause-comes
finish-requires-clause-comes g c = comes-met (signs_of g.K.Keeper.tells g.K.Keeper.doubt g.K.Keeper.faults) g.N.Naming.name c.args.client c.self.inside.house c.args.entry c.args.board c.args.payload.count c.self.invariant c.known.ensures.house_log (subst (λ (h : Housed g.row.K.Denot). WasSeen g.N.Naming.name c.args.client (MayFinish g.N.Naming.name c.args.client c.args.entry c.args.board c.args.payload.count) (chronicle h)) (sym c.self.view_is) c.requires)

pub finish-requires-clause-done : goal.finish-requires-clause-done
finish-requires-clause-done g c = done-met (signs_of g.K.Keeper.tells g.K.Keeper.doubt g.K.Keeper.faults) g.N.Naming.name c.args.client c.self.inside.house c.args.entry c.args.board c.args.payload.count c.self.invariant c.known.ensures.house_log (subst (λ (h : Housed g.row.K.Denot). WasSeen g.N.Naming.name c.args.client (MayFinish g.N.Naming.name c.args.client c.args.entry c.args.board c.args.payload.count) (chronicle h)) (sym c.self.view_is) c.requires)

pub invariant_of-self : goal.invariant_of-self
invariant_of-self g c = keeps-counted (signs_of g.K.Keeper.tells g.K.Keeper.doubt g.K.Keeper.faults) g.N.Naming.name c.args.client c.self.inside.house c.finish.new.self c.self.invariant (finished-grew c.args.client c.args.entry (number_of (basis_in c.self.inside.house.house_log) (past c.self.inside.house) c.args.entry) c.args.board c.args.payload c.finish.result c.self.inside.house c.finish.new.self c.finish.ensures.turn) c.finish.ensures.fared c.finish.ensures.counts (finish-plans g.N.Naming.name.plans c.args.client c.args.entry (number_of (basis_in c.self.inside.house.house_log) (past c.self.inside.house) c.args.entry) c.args.board c.args.payload c.finish.result c.self.inside.house c.finish.new.self c.finish.ensures.turn (finish-planned (signs_of g.K.Keeper.tells g.K.Keeper.doubt g.K.Keeper.faults) g.N.Naming.name c.args.client c.self.inside.house c.args.entry c.args.board c.args.payload.count c.self.invariant c.known.ensures.house_log (subst (λ (h : Housed g.row.K.Denot). WasSeen g.N.Naming.name c.args.client (MayFinish g.N.Naming.name c.args.client c.args.entry c.args.board c.args.payload.count) (chronicle h)) (sym c.self.view_is) c.requires)) c.self.invariant.planned)

pub returns-clause-turn : goal.returns-clause-turn
returns-clause-turn g c = subst (λ (h : Housed g.row.K.Denot). FinishedIn c.args.client c.args.entry c.args.board c.args.payload c.finish.result (chronicle h) (chronicle c.finish.new.self)) c.self.view_is (finished-in c.args.client c.args.entry (number_of (basis_in c.self.inside.house.house_log) (past c.self.inside.house) c.args.entry) c.args.board c.args.payload c.finish.result c.self.inside.house c.finish.new.self c.known.ensures.house_log c.finish.ensures.turn)
