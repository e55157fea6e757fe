use Rattle.std.proofs.Common.{refl}
use Rattle.emulated_boards.specs.Conditions.{unplugged}
use Rattle.history_keeper.specs.Signs.{signs_of}
use Rattle.update_log.specs.declared.event.Event.{Event}
use Rattle.shared_daemon.proofs.named.Named.unplug.Goals as goal
use Rattle.shared_daemon.proofs.Keeping.{keeps-calm, turned-calm}
use Rattle.daemon_core.proofs.Planned.{moved-plans}
use Rattle.shared_daemon.proofs.Seeing.{booted-named}
use Rattle.shared_daemon.proofs.Turning.{turned-named}
use Rattle.update_log.specs.declared.answer.PlugAnswer.{PlugAnswer}

pub unplug-requires : goal.unplug-requires
unplug-requires g c = record { booted = booted-named (signs_of g.K.Keeper.tells g.K.Keeper.doubt g.K.Keeper.faults) g.N.Naming.name c.self.inside.house c.self.invariant }

pub invariant_of-self : goal.invariant_of-self
invariant_of-self g c = keeps-calm (signs_of g.K.Keeper.tells g.K.Keeper.doubt g.K.Keeper.faults) g.N.Naming.name c.args.client c.self.inside.house c.unplug.new.self c.self.invariant (turned-calm c.args.client (λ (answer : PlugAnswer). Event.Unplug c.args.client c.args.device.now answer) c.unplug.result c.self.inside.house.house_log c.unplug.new.self.house_log (λ a. refl) (λ a. refl) c.unplug.ensures.turn) c.unplug.ensures.keeper (moved-plans g.N.Naming.name.plans unplugged c.self.inside.house.house_log c.args.device.now c.unplug.result c.self.inside.house.places c.unplug.new.self.places c.unplug.ensures.places c.self.invariant.planned)

pub returns : goal.returns
returns g c = turned-named c.args.client (λ (answer : PlugAnswer). Event.Unplug c.args.client c.args.device.now answer) c.unplug.result c.args.self.now c.self.inside.house c.unplug.new.self c.self.view_is c.known.ensures.house_log c.unplug.ensures.turn
