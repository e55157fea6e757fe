use Rattle.std.proofs.Common.{◌≡◌, refl, sym, subst, inr}
use Rattle.std.specs.Prelude.{Some}
use Rattle.history_keeper.specs.Signs.{signs_of}
use Rattle.update_log.specs.declared.event.Event.{Event}
use Rattle.shared_daemon.proofs.named.Named.give_up.Goals as goal
use Rattle.shared_daemon.proofs.Keeping.{keeps-calm, same-plans}
use Rattle.shared_daemon.proofs.Seeing.{booted-named}
use Rattle.shared_daemon.proofs.Turning.{adds-named}
use Rattle.shared_daemon.proofs.Stayed.{hold-met}
use Rattle.daemon_core.specs.Housed.{Housed}
use Rattle.shared_daemon.specs.Calls.{WasSeen}
use Rattle.shared_daemon.specs.Entries.{chronicle, past_seen}
use Rattle.daemon_core.specs.Holds.{back_of, held_by}
use Rattle.update_log.specs.Holding.{hold}

pub give_up-requires-clause-booted : goal.give_up-requires-clause-booted
give_up-requires-clause-booted g c = booted-named (signs_of g.K.Keeper.tells g.K.Keeper.doubt g.K.Keeper.faults) g.N.Naming.name c.self.inside.house c.self.invariant

pub give_up-requires-clause-held : goal.give_up-requires-clause-held
give_up-requires-clause-held g c = hold-met (signs_of g.K.Keeper.tells g.K.Keeper.doubt g.K.Keeper.faults) g.N.Naming.name c.args.client c.self.inside.house (held_by c.args.ticket c.args.blocks.count) c.self.invariant c.known.ensures.house_log (subst (λ (h : Housed g.row.K.Denot). WasSeen g.N.Naming.name c.args.client (λ seen. hold (past_seen seen) c.args.client ≡ Some (held_by c.args.ticket c.args.blocks.count)) (chronicle h)) (sym c.self.view_is) c.requires)

pub invariant_of-self : goal.invariant_of-self
invariant_of-self g c = keeps-calm (signs_of g.K.Keeper.tells g.K.Keeper.doubt g.K.Keeper.faults) g.N.Naming.name c.args.client c.self.inside.house c.give_up.new.self c.self.invariant (inr (Event.GiveBack c.args.client (back_of c.args.ticket.pending c.args.ticket.request), refl, refl, c.give_up.ensures.appended)) c.give_up.ensures.keeper (same-plans (signs_of g.K.Keeper.tells g.K.Keeper.doubt g.K.Keeper.faults) g.N.Naming.name c.args.client c.self.inside.house c.give_up.new.self c.self.invariant c.give_up.ensures.places)

pub returns : goal.returns
returns g c = adds-named c.args.client (Event.GiveBack c.args.client (back_of c.args.ticket.pending c.args.ticket.request)) c.args.self.now c.self.inside.house c.give_up.new.self c.self.view_is c.known.ensures.house_log c.give_up.ensures.appended
