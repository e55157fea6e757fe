use Rattle.std.proofs.Common.{All, take, ◌∙◌, subst}
use Rattle.device_list.specs.Guids.{HasRoom}
use Rattle.std.proofs.lemmas.List.Elements.{All-more, All-weaker}
use Rattle.std.proofs.lemmas.List.{take_all}
use Rattle.device_list.proofs.guid_index.reserve_each.Goals as goal

pub loop-guid-preserved : goal.loop-guid-preserved
loop-guid-preserved c = record {
  same = λ q. c.in_ok-reserve.ensures.same q ∙ c.loop-guid.invariant.same q;
  room = All-more (HasRoom c.reserve.new.index) c.args.guids.now c.loop-guid.guid-index c.guid-item.result c.loop-guid-test.true (All-weaker (HasRoom c.loop-guid.index) (HasRoom c.reserve.new.index) c.in_ok-reserve.ensures.kept (take c.loop-guid.guid-index c.args.guids.now) c.loop-guid.invariant.room) (subst (HasRoom c.reserve.new.index) c.guid-item.is c.in_ok-reserve.ensures.room);
  kept = λ q h. c.in_ok-reserve.ensures.kept q (c.loop-guid.invariant.kept q h);
}

pub returns-clause-room : goal.returns-clause-room
returns-clause-room c = subst (All (HasRoom c.loop-guid.index)) (take_all c.loop-guid.guid-index c.args.guids.now c.loop-guid-test.false) c.loop-guid.invariant.room
