use Rattle.update_log.proofs.WorkedLogs.{trusted-not}
use Rattle.update_log.proofs.examples.torn_success_is_not.Goals as goal

pub returns : goal.returns
returns c = trusted-not
