use Rattle.core_state.proofs.CoreViews.{told_none}
use Rattle.core_state.proofs.telling.stay.Goals as goal

pub returns : goal.returns
returns c = told_none c.args.boards.now c.args.devices.now
