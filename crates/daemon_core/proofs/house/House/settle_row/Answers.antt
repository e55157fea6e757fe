use Rattle.std.proofs.Common.{ap}
use Rattle.daemon_core.specs.Housed.{Housed}
use Rattle.daemon_core.specs.declared.judged.Standing.{Standing}
use Rattle.daemon_core.proofs.SettleKept.{event-over, never-shut, row-over, settle-open, some-over, standing-over, waits-allowed}
use Rattle.daemon_core.proofs.house.House.settle_row.Goals as goal

pub standing_of-requires : goal.standing_of-requires
standing_of-requires g c =
    some-over c.self.inside.house_log c.core.result.now c.args.device.now c.args.entry c.core.ensures
    (row-over c.self.inside.house_log c.args.self.now.house_log c.args.device.now c.args.entry (ap (λ (h : Housed g.row.K.Denot). h.house_log) c.self.view_is) c.known.ensures c.requires.found)

pub note-requires-clause-allowed : goal.note-requires-clause-allowed
note-requires-clause-allowed g c =
    event-over c.self.inside.house_log c.args.self.now.house_log c.args.client c.args.device.now c.settle_query.result (ap (λ (h : Housed g.row.K.Denot). h.house_log) c.self.view_is) c.settle_query.ensures
    (waits-allowed c.self.inside.house_log c.args.client c.args.device.now c.args.entry c.known.ensures
    (row-over c.self.inside.house_log c.args.self.now.house_log c.args.device.now c.args.entry (ap (λ (h : Housed g.row.K.Denot). h.house_log) c.self.view_is) c.known.ensures c.requires.found)
    (standing-over c.self.inside.house_log c.core.result.now c.args.entry Standing.Waits c.core.ensures c.in-Waits.ensures))

pub unreachable-requires : goal.unreachable-requires
unreachable-requires g c =
    never-shut c.standing_of.result
    (settle-open c.self.inside.house_log c.args.device.now c.args.entry c.standing_of.result
    (row-over c.self.inside.house_log c.args.self.now.house_log c.args.device.now c.args.entry (ap (λ (h : Housed g.row.K.Denot). h.house_log) c.self.view_is) c.known.ensures c.requires.found)
    (standing-over c.self.inside.house_log c.core.result.now c.args.entry c.standing_of.result c.core.ensures c.standing_of.ensures))
    c.in-Settled.is
