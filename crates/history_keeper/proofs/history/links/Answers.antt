use Rattle.std.proofs.lemmas.Result.{IfOk-weaker}
use Rattle.history_keeper.proofs.Following.{links-with, no_from, yes_from}
use Rattle.history_keeper.proofs.history.links.Goals as goal

pub returns-then-not-is_linked-clause-yes : goal.returns-then-not-is_linked-clause-yes
returns-then-not-is_linked-clause-yes c = λ l. no_from c.is_linked.result _ c.is_linked.ensures c.if-not-is_linked.true l.linked

pub returns-clause-yes : goal.returns-clause-yes
returns-clause-yes c =
    IfOk-weaker c.is_new_retry.result _ _
    (links-with c.args.before.now c.args.retried.now.keys c.args.row.now (yes_from c.is_linked.result _ c.is_linked.ensures c.if-not-is_linked.false))
    c.is_new_retry.ensures.fresh
