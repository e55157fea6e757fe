use Rattle.std.proofs.Common.{refl}
use Rattle.history_keeper.proofs.Following.{linked-none, linked-some}
use Rattle.history_keeper.proofs.history.is_linked.Goals as goal

pub returns-in-Some : goal.returns-in-Some
returns-in-Some c = linked-some c.args.before.now c.args.row.now c.in-Some.entry c.has_failure.result c.in-Some.is c.has_failure.ensures

pub returns-in-None : goal.returns-in-None
returns-in-None c = linked-none c.args.before.now c.args.row.now c.args.row.now.retry_of refl c.in-None.is
