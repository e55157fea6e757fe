use Rattle.history_keeper.proofs.Failures.{found, none-past}
use Rattle.history_keeper.proofs.history.has_failure.Goals as goal

pub returns-in-Some : goal.returns-in-Some
returns-in-Some c =
    found c.args.rows.now c.args.entry c.args.device.now c.in-Some.at c.index-rows-at.result c.is_failure.result c.requires c.in-Some.ensures.found.0 c.in-Some.ensures.found.1 c.index-rows-at.is c.is_failure.ensures

pub returns-in-None : goal.returns-in-None
returns-in-None c = none-past c.args.rows.now c.args.entry c.args.device.now c.requires c.in-None.ensures.past
