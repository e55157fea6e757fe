use Rattle.std.proofs.Common.{refl, sym, subst, inr}
use Rattle.history_keeper.specs.Signs.{signs_of}
use Rattle.update_log.specs.declared.event.Event.{Event}
use Rattle.shared_daemon.proofs.named.Named.give_back.Goals as goal
use Rattle.shared_daemon.proofs.Keeping.{keeps-calm}
use Rattle.daemon_core.proofs.Planned.{plans-same, plans-with}
use Rattle.shared_daemon.proofs.Seeing.{booted-named}
use Rattle.shared_daemon.proofs.Turning.{adds-named}
use Rattle.shared_daemon.proofs.Stayed.{back-met, back-planned, off-met}
use Rattle.daemon_core.specs.Housed.{basis_in, Housed, past}
use Rattle.daemon_core.specs.Returns.{number_of, places_with}
use Rattle.shared_daemon.specs.Calls.{WasSeen}
use Rattle.shared_daemon.specs.Entries.{chronicle}
use Rattle.shared_daemon.specs.Steps.{GoesHome}
use Rattle.update_log.specs.declared.event.Back.{Back}

pub give_back-requires-clause-booted : goal.give_back-requires-clause-booted
give_back-requires-clause-booted g c = booted-named (signs_of g.K.Keeper.tells g.K.Keeper.doubt g.K.Keeper.faults) g.N.Naming.name c.self.inside.house c.self.invariant

pub give_back-requires-clause-off : goal.give_back-requires-clause-off
give_back-requires-clause-off g c = off-met (signs_of g.K.Keeper.tells g.K.Keeper.doubt g.K.Keeper.faults) g.N.Naming.name c.args.client c.self.inside.house c.args.entry c.args.board c.args.payload.count c.self.invariant c.known.ensures.house_log (subst (λ (h : Housed g.row.K.Denot). WasSeen g.N.Naming.name c.args.client (GoesHome g.N.Naming.name c.args.client c.args.entry c.args.board c.args.payload.count) (chronicle h)) (sym c.self.view_is) c.requires)

pub give_back-requires-clause-comes : goal.give_back-requires-clause-comes
give_back-requires-clause-comes g c = back-met (signs_of g.K.Keeper.tells g.K.Keeper.doubt g.K.Keeper.faults) g.N.Naming.name c.args.client c.self.inside.house c.args.entry c.args.board c.args.payload.count c.self.invariant c.known.ensures.house_log (subst (λ (h : Housed g.row.K.Denot). WasSeen g.N.Naming.name c.args.client (GoesHome g.N.Naming.name c.args.client c.args.entry c.args.board c.args.payload.count) (chronicle h)) (sym c.self.view_is) c.requires)

pub invariant_of-self : goal.invariant_of-self
invariant_of-self g c = keeps-calm (signs_of g.K.Keeper.tells g.K.Keeper.doubt g.K.Keeper.faults) g.N.Naming.name c.args.client c.self.inside.house c.give_back.new.self c.self.invariant (inr (Event.GiveBack c.args.client (Back.Entry c.args.entry), refl, refl, c.give_back.ensures.appended)) c.give_back.ensures.keeper (plans-same g.N.Naming.name.plans (places_with c.self.inside.house.places (number_of (basis_in c.self.inside.house.house_log) (past c.self.inside.house) c.args.entry) c.args.board) c.give_back.new.self.places c.give_back.ensures.places (plans-with g.N.Naming.name.plans c.self.inside.house.places (number_of (basis_in c.self.inside.house.house_log) (past c.self.inside.house) c.args.entry) c.args.board (back-planned (signs_of g.K.Keeper.tells g.K.Keeper.doubt g.K.Keeper.faults) g.N.Naming.name c.args.client c.self.inside.house c.args.entry c.args.board c.args.payload.count c.self.invariant c.known.ensures.house_log (subst (λ (h : Housed g.row.K.Denot). WasSeen g.N.Naming.name c.args.client (GoesHome g.N.Naming.name c.args.client c.args.entry c.args.board c.args.payload.count) (chronicle h)) (sym c.self.view_is) c.requires)) c.self.invariant.planned))

pub returns : goal.returns
returns g c = adds-named c.args.client (Event.GiveBack c.args.client (Back.Entry c.args.entry)) c.args.self.now c.self.inside.house c.give_back.new.self c.self.view_is c.known.ensures.house_log c.give_back.ensures.appended
