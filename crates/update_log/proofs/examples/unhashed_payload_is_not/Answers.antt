use Rattle.update_log.proofs.WorkedLogs.{unhashed-not}
use Rattle.update_log.proofs.examples.unhashed_payload_is_not.Goals as goal

pub returns : goal.returns
returns c = unhashed-not
