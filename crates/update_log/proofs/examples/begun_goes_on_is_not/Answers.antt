use Rattle.update_log.proofs.WorkedLogs.{gone_on-not}
use Rattle.update_log.proofs.examples.begun_goes_on_is_not.Goals as goal

pub returns : goal.returns
returns c = gone_on-not
