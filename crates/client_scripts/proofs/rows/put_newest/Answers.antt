use Rattle.std.proofs.Common.{arith, ◌<◌, length}
use Rattle.client_scripts.specs.Replies.{row_line}
use Rattle.client_scripts.proofs.Newest.{newest_more}
use Rattle.client_scripts.proofs.rows.put_newest.Goals as goal

pub loop-at-preserved : goal.loop-at-preserved
loop-at-preserved c =
    let within : c.loop-at.at < length c.args.rows.now = omega arith in
    newest_more (row_line c.args.views.now) c.args.rows.now c.loop-at.at c.index-rows-rows.result _ _ _ within c.index-rows-rows.is c.loop-at.invariant c.in_ok-put_row.ensures
