use Rattle.std.proofs.Common.{ap}
use Rattle.daemon_core.specs.Housed.{Housed}
use Rattle.daemon_core.proofs.ResumeExits.{found-fails, found-some}
use Rattle.daemon_core.proofs.house.House.repeat.Goals as goal

pub fail-requires-clause-fails : goal.fail-requires-clause-fails
fail-requires-clause-fails g c =
    found-fails c.self.inside.house_log c.args.self.now.house_log c.args.entry c.refused_last.result c.in-Some.refusal
    (ap (λ (h : Housed g.row.K.Denot). h.house_log) c.self.view_is) c.known.ensures c.requires.refused c.refused_last.ensures c.in-Some.is

pub unreachable-requires : goal.unreachable-requires
unreachable-requires g c =
    found-some c.self.inside.house_log c.args.self.now.house_log c.args.entry c.refused_last.result
    (ap (λ (h : Housed g.row.K.Denot). h.house_log) c.self.view_is) c.requires.refused c.refused_last.ensures c.in-None.is
