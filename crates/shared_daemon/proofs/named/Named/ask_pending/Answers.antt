use Rattle.std.proofs.Common.{◌≡◌, List, refl, sym, subst}
use Rattle.std.specs.Prelude.{Some, IfOk}
use Rattle.update_log.specs.declared.event.Event.{Event}
use Rattle.shared_daemon.proofs.named.Named.ask_pending.Goals as goal
use Rattle.shared_daemon.proofs.Keeping.{keeps-calm, same-plans, turned-calm}
use Rattle.shared_daemon.proofs.Seeing.{booted-named}
use Rattle.shared_daemon.proofs.Turning.{turned-named}
use Rattle.shared_daemon.proofs.Stayed.{free-met, rows-met}
use Rattle.daemon_core.specs.Housed.{Housed}
use Rattle.shared_daemon.specs.Calls.{WasSeen}
use Rattle.shared_daemon.specs.Entries.{chronicle, past_seen}
use Rattle.daemon_core.specs.declared.hold.Asked.{Asked}
use Rattle.daemon_core.specs.Holds.{HoldsFor, answer_of}
use Rattle.update_log.specs.Legal.{IsFree, request_of_row}
use Rattle.history_keeper.specs.declared.row.Row.{Row}
use Rattle.history_keeper.specs.Signs.{signs_of}
use Rattle.update_log.specs.Known.{row_of, rows}
use Rattle.update_log.specs.declared.facts.Facts.{Facts}

pub ask_pending-requires-clause-booted : goal.ask_pending-requires-clause-booted
ask_pending-requires-clause-booted g c = booted-named (signs_of g.K.Keeper.tells g.K.Keeper.doubt g.K.Keeper.faults) g.N.Naming.name c.self.inside.house c.self.invariant

pub ask_pending-requires-clause-free : goal.ask_pending-requires-clause-free
ask_pending-requires-clause-free g c = free-met (signs_of g.K.Keeper.tells g.K.Keeper.doubt g.K.Keeper.faults) g.N.Naming.name 0 c.self.inside.house c.self.invariant c.known.ensures.house_log (subst (λ (h : Housed g.row.K.Denot). WasSeen g.N.Naming.name 0 (λ seen. IsFree (past_seen seen) 0) (chronicle h)) (sym c.self.view_is) c.requires.free)

pub ask_pending-requires-clause-pending : goal.ask_pending-requires-clause-pending
ask_pending-requires-clause-pending g c =
    let row : Row = c.requires.pending.0 in
    let is : row_of (rows g.N.Naming.name.basis (past_seen (chronicle c.args.self.now))) c.args.entry ≡ Some row = c.requires.pending.1 in
    (row, subst (λ (all : List Row). row_of all c.args.entry ≡ Some row) (sym (rows-met (signs_of g.K.Keeper.tells g.K.Keeper.doubt g.K.Keeper.faults) g.N.Naming.name 0 c.self.inside.house c.self.invariant c.known.ensures.house_log)) (subst (λ (h : Housed g.row.K.Denot). row_of (rows g.N.Naming.name.basis (past_seen (chronicle h))) c.args.entry ≡ Some row) (sym c.self.view_is) is), c.requires.pending.2)

pub invariant_of-self : goal.invariant_of-self
invariant_of-self g c =
    let row : Row = c.requires.pending.0 in
    let is : row_of (rows g.N.Naming.name.basis (past_seen (chronicle c.args.self.now))) c.args.entry ≡ Some row = c.requires.pending.1 in
    keeps-calm (signs_of g.K.Keeper.tells g.K.Keeper.doubt g.K.Keeper.faults) g.N.Naming.name 0 c.self.inside.house c.ask_pending.new.self c.self.invariant (turned-calm 0 (λ (asked : Asked). Event.Ask 0 (request_of_row row) (Some c.args.entry) (answer_of asked)) c.ask_pending.result c.self.inside.house.house_log c.ask_pending.new.self.house_log (λ a. refl) (λ a. refl) (c.ask_pending.ensures.turn row (subst (λ (all : List Row). row_of all c.args.entry ≡ Some row) (sym (rows-met (signs_of g.K.Keeper.tells g.K.Keeper.doubt g.K.Keeper.faults) g.N.Naming.name 0 c.self.inside.house c.self.invariant c.known.ensures.house_log)) (subst (λ (h : Housed g.row.K.Denot). row_of (rows g.N.Naming.name.basis (past_seen (chronicle h))) c.args.entry ≡ Some row) (sym c.self.view_is) is)))) c.ask_pending.ensures.keeper (same-plans (signs_of g.K.Keeper.tells g.K.Keeper.doubt g.K.Keeper.faults) g.N.Naming.name 0 c.self.inside.house c.ask_pending.new.self c.self.invariant c.ask_pending.ensures.places)

pub returns-clause-turn : goal.returns-clause-turn
returns-clause-turn g c = λ row is. turned-named 0 (λ (asked : Asked). Event.Ask 0 (request_of_row row) (Some c.args.entry) (answer_of asked)) c.ask_pending.result c.args.self.now c.self.inside.house c.ask_pending.new.self c.self.view_is c.known.ensures.house_log (c.ask_pending.ensures.turn row (subst (λ (all : List Row). row_of all c.args.entry ≡ Some row) (sym (rows-met (signs_of g.K.Keeper.tells g.K.Keeper.doubt g.K.Keeper.faults) g.N.Naming.name 0 c.self.inside.house c.self.invariant c.known.ensures.house_log)) (subst (λ (h : Housed g.row.K.Denot). row_of (rows g.N.Naming.name.basis (past_seen (chronicle h))) c.args.entry ≡ Some row) (sym c.self.view_is) is)))

pub returns-clause-holds : goal.returns-clause-holds
returns-clause-holds g c = λ row is. subst (λ (f : Facts). IfOk c.ask_pending.result (HoldsFor f 0 (request_of_row row) (Some c.args.entry))) c.self.invariant.facts_are (c.ask_pending.ensures.holds row (subst (λ (all : List Row). row_of all c.args.entry ≡ Some row) (sym (rows-met (signs_of g.K.Keeper.tells g.K.Keeper.doubt g.K.Keeper.faults) g.N.Naming.name 0 c.self.inside.house c.self.invariant c.known.ensures.house_log)) (subst (λ (h : Housed g.row.K.Denot). row_of (rows g.N.Naming.name.basis (past_seen (chronicle h))) c.args.entry ≡ Some row) (sym c.self.view_is) is)))
