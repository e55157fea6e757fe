use Rattle.daemon_tasks.proofs.Resumed.{one-left}
use Rattle.shared_daemon.specs.Names.{no_name}
use Rattle.daemon_tasks.proofs.behind.take_own.Goals as goal

pub returns-clause-own : goal.returns-clause-own
returns-clause-own c = (one-left no_name c.args.passes.now.items c.pop.new.self.items c.in-Some.own c.in-Some.ensures.items c.requires).1

pub returns-clause-none : goal.returns-clause-none
returns-clause-none c = (one-left no_name c.args.passes.now.items c.pop.new.self.items c.in-Some.own c.in-Some.ensures.items c.requires).0

pub returns-clause-number : goal.returns-clause-number
returns-clause-number c = (one-left no_name c.args.passes.now.items c.pop.new.self.items c.in-Some.own c.in-Some.ensures.items c.requires).2
