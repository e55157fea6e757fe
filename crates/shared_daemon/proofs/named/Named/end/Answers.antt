use Rattle.std.proofs.Common.{List, refl, sym, subst}
use Rattle.history_keeper.specs.Signs.{signs_of}
use Rattle.update_log.specs.declared.event.Event.{Event}
use Rattle.shared_daemon.proofs.named.Named.end.Goals as goal
use Rattle.shared_daemon.proofs.Keeping.{keeps-calm, went-calm}
use Rattle.daemon_core.proofs.Planned.{plans-stay}
use Rattle.shared_daemon.proofs.Seeing.{booted-named, to-name}
use Rattle.shared_daemon.proofs.Turning.{went-in}
use Rattle.shared_daemon.proofs.Stayed.{ends-met}
use Rattle.daemon_core.specs.Housed.{basis_in, Housed, past}
use Rattle.shared_daemon.specs.Calls.{TurnedOrOffIn, WasSeen}
use Rattle.shared_daemon.specs.Entries.{chronicle, past_seen}
use Rattle.shared_daemon.specs.Steps.{EndsOwn}
use Rattle.daemon_core.specs.Returns.{new_marks}
use Rattle.emulated_boards.specs.Conditions.{view_of}
use Rattle.emulated_boards.specs.declared.mark.Mark.{Mark}

pub end-requires-clause-booted : goal.end-requires-clause-booted
end-requires-clause-booted g c = booted-named (signs_of g.K.Keeper.tells g.K.Keeper.doubt g.K.Keeper.faults) g.N.Naming.name c.self.inside.house c.self.invariant

pub end-requires-clause-ends : goal.end-requires-clause-ends
end-requires-clause-ends g c = ends-met (signs_of g.K.Keeper.tells g.K.Keeper.doubt g.K.Keeper.faults) g.N.Naming.name c.args.client c.self.inside.house c.args.entry c.args.op c.args.outcome c.args.board.now c.self.invariant c.known.ensures.house_log (subst (λ (h : Housed g.row.K.Denot). WasSeen g.N.Naming.name c.args.client (EndsOwn g.N.Naming.name c.args.client c.args.entry c.args.op c.args.outcome c.args.board.now) (chronicle h)) (sym c.self.view_is) c.requires)

pub invariant_of-self : goal.invariant_of-self
invariant_of-self g c = keeps-calm (signs_of g.K.Keeper.tells g.K.Keeper.doubt g.K.Keeper.faults) g.N.Naming.name c.args.client c.self.inside.house c.end.new.self c.self.invariant (went-calm c.args.client (λ (u : Unit {0}). Event.End c.args.client c.args.entry c.args.op c.args.outcome (new_marks (basis_in c.self.inside.house.house_log) (past c.self.inside.house) c.args.entry c.args.board.now.journal) (view_of c.args.board.now.condition)) c.end.result c.self.inside.house.house_log c.end.new.self.house_log (λ a. refl) (λ a. refl) c.end.ensures.turn) c.end.ensures.keeper (plans-stay g.N.Naming.name.plans c.self.inside.house.places c.end.new.self.places c.end.ensures.places c.self.invariant.planned)

pub returns : goal.returns
returns g c =
    let E : List Mark → Unit {0} → Event = λ marks u. Event.End c.args.client c.args.entry c.args.op c.args.outcome marks (view_of c.args.board.now.condition) in
    let T : Housed g.row.K.Denot → List Mark → Type 0 = λ h marks. TurnedOrOffIn c.args.client (E marks) c.end.result (chronicle h) (chronicle c.end.new.self) in
    let inside : T c.self.inside.house (new_marks (basis_in c.self.inside.house.house_log) (past c.self.inside.house) c.args.entry c.args.board.now.journal) = went-in c.args.client (λ (u : Unit {0}). Event.End c.args.client c.args.entry c.args.op c.args.outcome (new_marks (basis_in c.self.inside.house.house_log) (past c.self.inside.house) c.args.entry c.args.board.now.journal) (view_of c.args.board.now.condition)) c.end.result c.self.inside.house.house_log c.end.new.self.house_log c.known.ensures.house_log c.end.ensures.turn in
    subst (λ (h : Housed g.row.K.Denot). T h (new_marks g.N.Naming.name.basis (past_seen (chronicle h)) c.args.entry c.args.board.now.journal)) c.self.view_is
    (to-name (signs_of g.K.Keeper.tells g.K.Keeper.doubt g.K.Keeper.faults) g.N.Naming.name c.self.inside.house c.self.invariant c.known.ensures.house_log (λ base s p. T c.self.inside.house (new_marks base p c.args.entry c.args.board.now.journal)) inside)
