use Rattle.std.proofs.Common.{sym, ◌∙◌}
use Rattle.client_scripts.specs.Replies.{row_line}
use Rattle.client_scripts.proofs.First.{newest-64}
use Rattle.client_scripts.proofs.rows.put_history.Goals as goal

pub returns : goal.returns
returns c = newest-64 (row_line c.args.views.now) c.args.rows.now c.min-listed.result _ _ _ (sym c.is_empty.ensures ∙ c.if-is_empty.false) c.min-listed.ensures c.in_ok-put_newest.ensures c.in_ok-put_left_out.ensures
