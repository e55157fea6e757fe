use Rattle.std.proofs.Common.{All, subst}
use Rattle.device_list.specs.Guids.{HasRoom}
use Rattle.std.proofs.lemmas.List.Elements.{All-weaker}
use Rattle.device_list.proofs.guid_index.reserve_board.Goals as goal

pub returns-clause-runtime : goal.returns-clause-runtime
returns-clause-runtime c =
    All-weaker (HasRoom c.reserve_each.new.index) (HasRoom c.reserve_each-2.new.index) c.in_ok-reserve_each-2.ensures.kept c.args.sheet.now.runtime_guids
    (subst (All (HasRoom c.reserve_each.new.index)) c.items.ensures c.in_ok-reserve_each.ensures.room)

pub returns-clause-loader : goal.returns-clause-loader
returns-clause-loader c = subst (All (HasRoom c.reserve_each-2.new.index)) c.items-2.ensures c.in_ok-reserve_each-2.ensures.room
