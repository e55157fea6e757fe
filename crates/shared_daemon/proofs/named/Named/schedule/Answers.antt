use Rattle.std.proofs.Common.{refl, sym, subst}
use Rattle.history_keeper.specs.Signs.{signs_of}
use Rattle.update_log.specs.declared.event.Event.{Event}
use Rattle.shared_daemon.proofs.named.Named.schedule.Goals as goal
use Rattle.shared_daemon.proofs.Keeping.{keeps-counted, same-plans, turned-grew}
use Rattle.shared_daemon.proofs.Seeing.{booted-named}
use Rattle.shared_daemon.proofs.Turning.{turned-named}
use Rattle.shared_daemon.proofs.Stayed.{free-met}
use Rattle.daemon_core.specs.Housed.{Housed}
use Rattle.shared_daemon.specs.Calls.{WasSeen}
use Rattle.shared_daemon.specs.Entries.{chronicle, past_seen}
use Rattle.update_log.specs.declared.answer.ClaimAnswer.{ClaimAnswer}
use Rattle.update_log.specs.Legal.{IsFree}

pub schedule-requires-clause-booted : goal.schedule-requires-clause-booted
schedule-requires-clause-booted g c = booted-named (signs_of g.K.Keeper.tells g.K.Keeper.doubt g.K.Keeper.faults) g.N.Naming.name c.self.inside.house c.self.invariant

pub schedule-requires-clause-free : goal.schedule-requires-clause-free
schedule-requires-clause-free g c = free-met (signs_of g.K.Keeper.tells g.K.Keeper.doubt g.K.Keeper.faults) g.N.Naming.name c.args.client c.self.inside.house c.self.invariant c.known.ensures.house_log (subst (λ (h : Housed g.row.K.Denot). WasSeen g.N.Naming.name c.args.client (λ seen. IsFree (past_seen seen) c.args.client) (chronicle h)) (sym c.self.view_is) c.requires)

pub invariant_of-self : goal.invariant_of-self
invariant_of-self g c = keeps-counted (signs_of g.K.Keeper.tells g.K.Keeper.doubt g.K.Keeper.faults) g.N.Naming.name c.args.client c.self.inside.house c.schedule.new.self c.self.invariant (turned-grew c.args.client (λ (answer : ClaimAnswer). Event.Schedule c.args.client c.args.request.now answer) c.schedule.result c.self.inside.house.house_log c.schedule.new.self.house_log (λ a. refl) c.schedule.ensures.turn) c.schedule.ensures.fared c.schedule.ensures.counts (same-plans (signs_of g.K.Keeper.tells g.K.Keeper.doubt g.K.Keeper.faults) g.N.Naming.name c.args.client c.self.inside.house c.schedule.new.self c.self.invariant c.schedule.ensures.places)

pub returns : goal.returns
returns g c = turned-named c.args.client (λ (answer : ClaimAnswer). Event.Schedule c.args.client c.args.request.now answer) c.schedule.result c.args.self.now c.self.inside.house c.schedule.new.self c.self.view_is c.known.ensures.house_log c.schedule.ensures.turn
