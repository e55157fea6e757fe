use Rattle.std.proofs.Common.{ap, subst, length, arith}
use Rattle.history_keeper.specs.Signs.{signs_of}
use Rattle.daemon_core.specs.Claims.{RoomierPlaces}
use Rattle.daemon_core.specs.Housed.{Housed}
use Rattle.daemon_core.proofs.ClaimRoom.{house-with_room, reserved-places, reserved-room, within-without}
use Rattle.daemon_core.proofs.house.House.reserve_marks.Goals as goal

pub put-requires : goal.put-requires
put-requires g c =
    let e = ap (λ (h : Housed g.row.K.Denot). length h.places) c.self.view_is in
    let r = c.requires.within in
    within-without c.self.inside.places.items c.take_out-board.new.places.items c.args.number (omega (arith, e, r)) c.take_out-board.ensures.places

pub invariant_of-self : goal.invariant_of-self
invariant_of-self g c =
    let e = ap (λ (h : Housed g.row.K.Denot). length h.places) c.self.view_is in
    let r = c.requires.within in
    house-with_room (signs_of g.K.Keeper.tells g.K.Keeper.doubt g.K.Keeper.faults) (record { house_log = c.self.inside.house_log; places = c.self.inside.places.items; pool = c.self.inside.pool; keeper = c.self.inside.keeper }) c.put.new.places.items c.self.invariant
    (reserved-places c.self.inside.places.items c.take_out-board.new.places.items c.put.new.places.items c.args.number c.take_out-board.result c.reserve_marks-reserved.new.self (omega (arith, e, r)) c.take_out-board.ensures.board c.reserve_marks-reserved.ensures.same c.take_out-board.ensures.places c.put.ensures)

pub returns-clause-roomier : goal.returns-clause-roomier
returns-clause-roomier g c =
    let e = ap (λ (h : Housed g.row.K.Denot). length h.places) c.self.view_is in
    let r = c.requires.within in
    subst (λ (h : Housed g.row.K.Denot). RoomierPlaces h.places c.put.new.places.items) c.self.view_is
    (reserved-places c.self.inside.places.items c.take_out-board.new.places.items c.put.new.places.items c.args.number c.take_out-board.result c.reserve_marks-reserved.new.self (omega (arith, e, r)) c.take_out-board.ensures.board c.reserve_marks-reserved.ensures.same c.take_out-board.ensures.places c.put.ensures)

pub returns-clause-room : goal.returns-clause-room
returns-clause-room g c =
    let e = ap (λ (h : Housed g.row.K.Denot). length h.places) c.self.view_is in
    let r = c.requires.within in
    reserved-room c.self.inside.places.items c.take_out-board.new.places.items c.put.new.places.items c.args.number c.reserve_marks-reserved.new.self _ (omega (arith, e, r)) c.take_out-board.ensures.places c.put.ensures c.reserve_marks-reserved.ensures.reserved
