use Rattle.std.proofs.Common.{ap}
use Rattle.daemon_core.specs.Housed.{Housed}
use Rattle.daemon_core.specs.declared.judged.DeviceRow.{DeviceRow}
use Rattle.daemon_core.proofs.SettleKept.{event-over, found-over, none-allowed, nothing-allowed}
use Rattle.daemon_core.proofs.house.House.settle.Goals as goal

pub note-requires-clause-allowed : goal.note-requires-clause-allowed
note-requires-clause-allowed g c =
    event-over c.self.inside.house_log c.enter.new.self.house_log c.args.client c.args.device.now c.settle_query.result (ap (λ (h : Housed g.row.K.Denot). h.house_log) c.self.view_is) c.settle_query.ensures
    (none-allowed c.self.inside.house_log c.args.client c.args.device.now c.known.ensures (found-over c.self.inside.house_log c.core.result.now c.args.device.now DeviceRow.NoDevice c.core.ensures c.in-NoDevice.ensures))

pub note-requires-in-Nothing-clause-allowed : goal.note-requires-in-Nothing-clause-allowed
note-requires-in-Nothing-clause-allowed g c =
    event-over c.self.inside.house_log c.enter.new.self.house_log c.args.client c.args.device.now c.settle_query-in-Nothing.result (ap (λ (h : Housed g.row.K.Denot). h.house_log) c.self.view_is) c.settle_query-in-Nothing.ensures
    (nothing-allowed c.self.inside.house_log c.args.client c.args.device.now c.known.ensures (found-over c.self.inside.house_log c.core.result.now c.args.device.now DeviceRow.Nothing c.core.ensures c.in-Nothing.ensures))
