use Rattle.std.proofs.Common.{rules}
use Rattle.json_values.proofs.Passing.{item_less, member_less}
use Rattle.json_values.proofs.ranges.+range.Goals as goal

pub are_in_range-is_in_range-requires : goal.are_in_range-is_in_range-requires
are_in_range-is_in_range-requires t c =
    let smaller = item_less c.args.items.now c.loop-item.item-index c.item-item.result c.loop-item-test.true c.item-item.is in
    search rules

pub members_are_in_range-is_in_range-requires : goal.members_are_in_range-is_in_range-requires
members_are_in_range-is_in_range-requires t c =
    let smaller = member_less c.args.members.now c.loop-member.member-index c.member-item.result c.loop-member-test.true c.member-item.is in
    search rules
