use Rattle.std.proofs.Common.{subst}
use Rattle.history_keeper.specs.Signs.{signs_of}
use Rattle.shared_daemon.proofs.named.Named.settle.Goals as goal
use Rattle.shared_daemon.proofs.Keeping.{keeps-counted, same-plans}
use Rattle.shared_daemon.proofs.Seeing.{booted-named}
use Rattle.daemon_core.specs.Housed.{Housed}
use Rattle.shared_daemon.specs.Entries.{chronicle}
use Rattle.shared_daemon.proofs.Answered.{settled-grew, settled-in}
use Rattle.shared_daemon.specs.Calls.{SettledIn}

pub settle-requires : goal.settle-requires
settle-requires g c = record { booted = booted-named (signs_of g.K.Keeper.tells g.K.Keeper.doubt g.K.Keeper.faults) g.N.Naming.name c.self.inside.house c.self.invariant }

pub invariant_of-self : goal.invariant_of-self
invariant_of-self g c = keeps-counted (signs_of g.K.Keeper.tells g.K.Keeper.doubt g.K.Keeper.faults) g.N.Naming.name c.args.client c.self.inside.house c.settle.new.self c.self.invariant (settled-grew c.args.client c.args.device.now c.settle.result c.self.inside.house.house_log c.settle.new.self.house_log c.settle.ensures.turn) c.settle.ensures.fared c.settle.ensures.counts (same-plans (signs_of g.K.Keeper.tells g.K.Keeper.doubt g.K.Keeper.faults) g.N.Naming.name c.args.client c.self.inside.house c.settle.new.self c.self.invariant c.settle.ensures.places)

pub returns : goal.returns
returns g c = subst (λ (h : Housed g.row.K.Denot). SettledIn g.N.Naming.name c.args.client c.args.device.now c.settle.result (chronicle h) (chronicle c.settle.new.self)) c.self.view_is (settled-in (signs_of g.K.Keeper.tells g.K.Keeper.doubt g.K.Keeper.faults) g.N.Naming.name c.args.client c.args.device.now c.settle.result c.self.inside.house c.settle.new.self c.self.invariant c.known.ensures.house_log c.settle.ensures.turn)
