use Rattle.history_keeper.proofs.Numbered.{stated-past}
use Rattle.row_index.proofs.Places.{none-waits}
use Rattle.row_index.proofs.stated.state_numbered.Goals as goal

pub returns-in-None-clause-stated : goal.returns-in-None-clause-stated
returns-in-None-clause-stated c = stated-past c.args.entry c.args.state c.args.reason c.args.time c.args.rows.now c.requires c.in-None.ensures.past

pub returns-in-None-clause-settled : goal.returns-in-None-clause-settled
returns-in-None-clause-settled c = none-waits c.args.entry c.args.state c.args.reason c.args.time c.args.rows.now c.requires c.in-None.ensures.past
