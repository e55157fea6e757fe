use Rattle.daemon_core.specs.Housed.{past}
use Rattle.daemon_core.proofs.Owed.{owed-cut_live}
use Rattle.daemon_core.proofs.house.House.finish.Goals as goal

pub go_on-requires-clause-spared : goal.go_on-requires-clause-spared
go_on-requires-clause-spared g c = λ on. let s = c.requires.comes.2 in owed-cut_live (past c.args.self.now) c.args.entry c.requires.comes.1 on s.live
