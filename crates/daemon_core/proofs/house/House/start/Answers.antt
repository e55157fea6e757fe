use Rattle.daemon_core.specs.Housed.{past}
use Rattle.daemon_core.proofs.Owed.{owed-cut_live}
use Rattle.daemon_core.proofs.house.House.start.Goals as goal

pub go_on-requires-clause-spared : goal.go_on-requires-clause-spared
go_on-requires-clause-spared g c = λ on. let n = c.requires.next.1 in owed-cut_live (past c.args.self.now) c.args.entry c.requires.next.0 on n.live
