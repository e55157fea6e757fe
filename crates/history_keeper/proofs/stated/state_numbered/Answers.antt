use Rattle.history_keeper.proofs.Numbered.{stated-past}
use Rattle.history_keeper.proofs.stated.state_numbered.Goals as goal

pub returns-in-None : goal.returns-in-None
returns-in-None c = stated-past c.args.entry c.args.state c.args.reason c.args.time c.args.rows.now c.requires c.in-None.ensures.past
