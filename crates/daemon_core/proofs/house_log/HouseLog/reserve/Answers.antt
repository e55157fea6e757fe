use Rattle.std.proofs.Common.{ap, arith, length}
use Rattle.daemon_core.specs.Housed.{HouseLogView, past_in}
use Rattle.daemon_core.specs.Owed.{owed}
use Rattle.daemon_core.proofs.OwedLaws.{owed-most}
use Rattle.daemon_core.proofs.house_log.HouseLog.reserve.Goals as goal

pub returns-clause-room : goal.returns-clause-room
returns-clause-room c =
    let v = ap (λ (a : HouseLogView). owed (past_in a)) c.self.view_is in
    let o = owed-most (past_in (record c.args.self.now { core = c.self.inside.core })) in
    let h = ap length c.holds.ensures in
    let l = ap length c.live.ensures in
    let w = c.in_ok-wanted.ensures in
    let r = c.in_ok-reserve.ensures.room in
    let m = c.in_ok-reserve-2.ensures.ok in
    omega (arith, v, o, h, l, w, r, m)
