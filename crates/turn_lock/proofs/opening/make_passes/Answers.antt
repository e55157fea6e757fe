use Rattle.std.proofs.Common.{◌∙◌, arith}
use Rattle.turn_lock.proofs.Counting.{one_longer}
use Rattle.turn_lock.proofs.Fields.{new_passes_more}
use Rattle.turn_lock.proofs.opening.make_passes.Goals as goal

pub loop-number-preserved : goal.loop-number-preserved
loop-number-preserved g c =
    let inv = c.loop-number.invariant in
    let before = c.loop-number.passes.items in
    let after = c.push_reserved.new.self.items in
    let pass = c.make_pass.result in
    let items = c.push_reserved.ensures.items in record {
      seat = c.make_pass.ensures.seat ∙ inv.seat;
      opener = c.make_pass.ensures.next;
      count = (let n = inv.count in let more = one_longer before after pass items in omega arith);
      passes = new_passes_more c.args.table.now.table_id (g.V.Chronicle.entries c.args.table.now.key.value.value) before after pass c.loop-number.number items inv.passes c.make_pass.ensures.pass;
      room = (let cap = c.push_reserved.ensures.capacity in let r = inv.room in omega arith);
    }
