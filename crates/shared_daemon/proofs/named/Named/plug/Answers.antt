use Rattle.std.proofs.Common.{refl}
use Rattle.emulated_boards.specs.Conditions.{plugged}
use Rattle.history_keeper.specs.Signs.{signs_of}
use Rattle.update_log.specs.declared.event.Event.{Event}
use Rattle.shared_daemon.proofs.named.Named.plug.Goals as goal
use Rattle.shared_daemon.proofs.Keeping.{keeps-calm, turned-calm}
use Rattle.daemon_core.proofs.Planned.{moved-plans}
use Rattle.shared_daemon.proofs.Seeing.{booted-named}
use Rattle.shared_daemon.proofs.Turning.{turned-named}
use Rattle.update_log.specs.declared.answer.PlugAnswer.{PlugAnswer}

pub plug-requires : goal.plug-requires
plug-requires g c = record { booted = booted-named (signs_of g.K.Keeper.tells g.K.Keeper.doubt g.K.Keeper.faults) g.N.Naming.name c.self.inside.house c.self.invariant }

pub invariant_of-self : goal.invariant_of-self
invariant_of-self g c = keeps-calm (signs_of g.K.Keeper.tells g.K.Keeper.doubt g.K.Keeper.faults) g.N.Naming.name c.args.client c.self.inside.house c.plug.new.self c.self.invariant (turned-calm c.args.client (λ (answer : PlugAnswer). Event.Plug c.args.client c.args.device.now answer) c.plug.result c.self.inside.house.house_log c.plug.new.self.house_log (λ a. refl) (λ a. refl) c.plug.ensures.turn) c.plug.ensures.keeper (moved-plans g.N.Naming.name.plans plugged c.self.inside.house.house_log c.args.device.now c.plug.result c.self.inside.house.places c.plug.new.self.places c.plug.ensures.places c.self.invariant.planned)

pub returns : goal.returns
returns g c = turned-named c.args.client (λ (answer : PlugAnswer). Event.Plug c.args.client c.args.device.now answer) c.plug.result c.args.self.now c.self.inside.house c.plug.new.self c.self.view_is c.known.ensures.house_log c.plug.ensures.turn
