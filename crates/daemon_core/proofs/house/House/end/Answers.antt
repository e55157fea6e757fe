use Rattle.std.proofs.Common.{ap}
use Rattle.daemon_core.specs.Housed.{Housed}
use Rattle.daemon_core.proofs.ClaimEnds.{end-spared}
use Rattle.daemon_core.proofs.house.House.end.Goals as goal

pub go_on-requires-clause-spared : goal.go_on-requires-clause-spared
go_on-requires-clause-spared g c = λ on.
    end-spared c.self.inside.house_log c.args.self.now.house_log c.args.client c.args.entry c.args.op c.args.outcome c.requires.ends.0 c.args.board.now
    (ap (λ (h : Housed g.row.K.Denot). h.house_log) c.self.view_is) c.known.ensures c.requires.ends.1 on
